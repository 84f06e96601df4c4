-- A service as an event finds it, and for which situation it stands.
use Rattle.std.specs.Prelude.{◌≡◌, ℕ, ◌+◌, ◌<◌, ◌^◌, Option, Some, None, unwrap_or, Result, Err, if◌then◌else◌}
use Rattle.refusals.specs.declared.RefusalNumber.{RefusalNumber}
use Rattle.refusals.specs.declared.RefusalNumber.TheVariants as refusal
use Rattle.registry.specs.Registries.{spent_or_open}
use Rattle.service_profile.specs.declared.standings.Standing.{Standing}
use Rattle.service_profile.specs.declared.tickets.OpenTicket.{OpenTicket}
use Rattle.service_profile.specs.declared.states.State.TheVariants as state
use Rattle.service_profile.specs.Machine.{Situation, in_state, is_issued, open_ticket}
use Rattle.book.specs.declared.found.FoundService.{FoundService}
use Rattle.book.specs.Situations.{StandsFor, HasSituation}

-- an event finds all as it stood; or, where a stay ends, the breaker where it stands then, in OPEN since a moment
abbrev pub IsAsFound : Option Standing → Situation → Situation → Type 0
IsAsFound None before s = s ≡ before
IsAsFound (Some standing) before s = (standing ≡ s.standing) × (moment : ℕ) × (s ≡ in_state state.Open moment before)

-- the parts stand for a situation, as which the event finds it
pub record IsFoundAs (found_service : FoundService) (held : ℕ) (s : Situation) : Type 0 where
  pub before : Situation
  pub stands : StandsFor found_service.service.now held before
  pub found : IsAsFound found_service.after_stay before s

-- where the breaker stands that the event finds
abbrev pub found_standing : FoundService → Standing
found_standing found_service = unwrap_or found_service.after_stay found_service.service.now.breaker.standing

-- the open ticket of a number, or why it is not open
abbrev pub ticket_in : Situation → ℕ → Result OpenTicket RefusalNumber
ticket_in s number = if is_issued s number then spent_or_open (open_ticket s.open_tickets number) else Err refusal.NoTicket

-- the parts have a situation, and there is room for one period more
pub record HasFound (found_service : FoundService) : Type 0 where
  pub situation : HasSituation found_service.service.now
  pub period : (found_standing found_service).period + 1 < 2 ^ 64
