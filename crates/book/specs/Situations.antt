-- What a service's parts stand for, and what is known of it.
use Rattle.std.specs.Prelude.{◌≡◌, ℕ, ◌+◌, ◌-◌, ◌<◌, ◌≤◌, ◌^◌, Option, Some, None, length, drop}
use Rattle.std.specs.List.{AllByRecursion}
use Rattle.book.specs.declared.plans.Effects.{Effects}
use Rattle.book.specs.declared.parts.Parts.{Parts}
use Rattle.bpf_profile.specs.Programs.{VerifiedProgram}
use Rattle.breaker.specs.Situations.{BreakerSituation}
use Rattle.breaker.specs.Situations as breakers
use Rattle.registry.specs.Registries.{RegistryData}
use Rattle.service_profile.specs.declared.standings.Standing.{Standing}
use Rattle.service_profile.specs.declared.notes.Note.{Note}
use Rattle.service_profile.specs.declared.tickets.OpenTicket.{OpenTicket}
use Rattle.service_profile.specs.Limits.{most_versions}
use Rattle.service_profile.specs.Machine.{Situation, current_version, permissions_held}
use Rattle.windows.specs.Notes.{AreNotAfter}

-- where a situation has its breaker: the open tickets of the period hold its permissions
abbrev pub breaker_of : Situation → BreakerSituation
breaker_of s = record { config = s.config; standing = s.standing; notes = s.notes; held = permissions_held s.standing.period s.open_tickets }

-- a registry has the versions that a situation holds, and its tickets; no open ticket is of a version that was dropped
pub record IsRegistered (registry : RegistryData) (s : Situation) : Type 0 where
  pub first : s.first_version + s.dropped ≡ registry.first_version
  pub some : s.dropped < length s.programs
  pub versions : drop s.dropped s.programs ≡ registry.programs
  pub needed : AllByRecursion (λ ticket. s.first_version + s.dropped ≤ ticket.version) s.open_tickets
  pub tickets : s.open_tickets ≡ registry.open_tickets
  pub next : s.next_ticket ≡ registry.next_ticket

-- a service's parts and so many entries stand for a situation: the breaker for where it stands, for the notes of its period and for the permissions held, the bulkhead for how many tickets are open, the registry for versions and tickets
pub record StandsFor (service : Parts) (held : ℕ) (s : Situation) : Type 0 where
  pub configured : s.config ≡ service.config
  pub stands : breakers.StandsFor service.breaker (breaker_of s)
  pub places : service.bulkhead ≡ record { places = s.config.max_concurrent_calls; taken = length s.open_tickets }
  pub registered : IsRegistered service.registry s
  pub entered : s.held ≡ held

-- a situation in which tickets are of periods that have begun, and which leaves room for one event more
pub record IsOrderly (s : Situation) : Type 0 where
  pub period : s.standing.period + 2 < 2 ^ 64
  pub periods : AllByRecursion (λ ticket. ticket.period ≤ s.standing.period) s.open_tickets
  pub notes : length s.notes < 2 ^ 64 - 8
  pub tickets : length s.open_tickets < 2 ^ 32
  pub next : s.next_ticket + 1 < 2 ^ 64
  pub versions : s.first_version + length s.programs + 1 < 2 ^ 64

-- a service's parts stand for an orderly situation
pub record HasSituation (service : Parts) : Type 0 where
  pub held : ℕ
  pub situation : Situation
  pub stands : StandsFor service held situation
  pub orderly : IsOrderly situation

-- ---- what a decision may change

-- the breaker stays where it stands, or stands in a later period
pub record IsLater (before after : Standing) : Type 0 where
  pub least : before.period ≤ after.period
  pub same : after.period ≡ before.period → after ≡ before

-- the next ticket, of a period and a moment
abbrev pub next_open : Situation → ℕ → ℕ → OpenTicket
next_open s period moment = record { number = s.next_ticket; version = current_version s; period = period; moment = moment }

-- the next ticket is issued where a place is free and nothing else happens, and a note is not before another
pub record AreEffects (s : Situation) (next : Standing) (effects : Effects) : Type 0 where
  pub later : IsLater s.standing next
  pub issue : (ticket : OpenTicket) → effects.issued ≡ Some ticket → (ticket ≡ next_open s next.period ticket.moment) × (effects.ended ≡ None) × (effects.note ≡ None) × (length s.open_tickets < s.config.max_concurrent_calls)
  pub note : (n : Note) → effects.note ≡ Some n → AreNotAfter n.moment s.notes

-- what a change of tickets and of the breaker leaves
pub record KeepsVersions (before after : Parts) : Type 0 where
  pub config : after.config ≡ before.config
  pub refused : after.refused ≡ before.refused
  pub programs : after.registry.programs ≡ before.registry.programs
  pub first_version : after.registry.first_version ≡ before.registry.first_version
  pub room : after.registry.program_room ≡ before.registry.program_room

-- where a decision leads, the breaker stays or begins a period
abbrev pub Leads : Parts → Standing → Type 0
Leads service next = next.period ≡ service.breaker.standing.period → next ≡ service.breaker.standing

-- a service can go on so, with the program that gets a version
pub record CanFollow (service : Parts) (next : Standing) (effects : Effects) (installs : Option VerifiedProgram) : Type 0 where
  pub held : ℕ
  pub situation : Situation
  pub stands : StandsFor service held situation
  pub orderly : IsOrderly situation
  pub changes : AreEffects situation next effects
  pub few : (program : VerifiedProgram) → installs ≡ Some program → length situation.programs - situation.dropped < most_versions
