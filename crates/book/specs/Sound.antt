-- What is true of every legal history.
use Rattle.std.specs.Prelude.{◌≡◌, ℕ, ◌+◌, ◌-◌, ◌*◌, ◌^◌, ◌<◌, ◌≤◌, length, true}
use Rattle.std.specs.List.{AllByRecursion}
use Rattle.service_profile.specs.Limits.{most_versions, most_entries}
use Rattle.service_profile.specs.Histories.{Past, ended, issued, notes_of, open_of, programs_of, greatest}
use Rattle.service_profile.specs.Machine.{permissions_held}
use Rattle.service_profile.specs.MeantVerdicts.{IsMeantLine}
use Rattle.service_profile.specs.Openings.{IsOpening}
use Rattle.service_profile.specs.Standings.{is_half_open}
use Rattle.book.specs.Accepted.{Accepting, IsLine}

abbrev pub next_ticket : Past → ℕ
next_ticket past = past.opening.ticket + length (issued past.stages)

pub record IsSound (accepts : Accepting) (past : Past) : Type 0 where
  pub opening : IsOpening past.opening
  -- no stage was taken in a later period, and a line makes at most two transitions
  pub periods : AllByRecursion (λ stage. (stage.before.period ≤ past.standing.period) × (stage.after.period ≤ past.standing.period)) past.stages
  pub period : past.standing.period ≤ past.opening.period + 2 * length past.stages
  -- a ticket that has ended, or is open, was issued
  pub ended : AllByRecursion (λ number. number < next_ticket past) (ended past.stages)
  pub open_issued : AllByRecursion (λ ticket. (1 ≤ ticket.number) × (ticket.number < next_ticket past)) (open_of past.stages)
  pub few_issued : length (issued past.stages) ≤ length past.stages
  -- tickets are of periods that have begun
  pub ticket_periods : AllByRecursion (λ ticket. ticket.period ≤ past.standing.period) (open_of past.stages)
  -- the bulkhead's places
  pub places : length (open_of past.stages) ≤ past.opening.config.max_concurrent_calls
  -- permissions held and notes in HALF_OPEN
  pub permissions : is_half_open past.standing.state ≡ true
      → permissions_held past.standing.period (open_of past.stages) + length (notes_of past) ≤ past.opening.config.permitted_number_of_calls_in_half_open_state
  -- the journal has a line left for the end of each open ticket
  pub used : (length past.stages - past.rolled.lines) + length (open_of past.stages) ≤ most_entries
  -- the versions that are held
  pub versions : length (programs_of past) - past.rolled.programs ≤ most_versions
  -- every program that was installed is accepted
  pub programs : AllByRecursion accepts (programs_of past)
  -- all work that came in was judged, and each verdict is the meaning's for the version that its ticket names
  pub lines : AllByRecursion (λ stage. IsLine accepts stage.line) past.stages
  pub verdicts : AllByRecursion (λ stage. IsMeantLine past.opening.version (programs_of past) (issued past.stages) stage.line) past.stages
  pub moment : greatest past < 2 ^ 64
