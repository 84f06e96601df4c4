-- When a breaker comes from CLOSED to OPEN.
use Rattle.std.proofs.Common.{◌≡◌, ℕ, nat_le, ◌&&◌, Bool, if◌then◌else◌, List, [], ◌∷◌, ◌++◌, length, Some, None, refl, ap, rules}
use Rattle.bpf_profile.specs.declared.machine.Verdict.{Verdict}
use Rattle.bpf_profile.specs.JudgedWork.{JudgedData}
use Rattle.refusals.specs.declared.RefusalNumber.TheVariants as refusal
use Rattle.service_profile.specs.declared.configuration.ConfigParts.{ConfigParts}
use Rattle.service_profile.specs.declared.decisions.Decision.{Decision}
use Rattle.service_profile.specs.declared.notes.Note.{Note}
use Rattle.service_profile.specs.declared.replies.Fate.{Fate}
use Rattle.service_profile.specs.declared.replies.Fate.TheVariants as fate
use Rattle.service_profile.specs.declared.replies.Reply.TheVariants as reply
use Rattle.service_profile.specs.declared.standings.Standing.{Standing}
use Rattle.service_profile.specs.declared.states.State.{State}
use Rattle.service_profile.specs.declared.states.State.TheVariants as state
use Rattle.service_profile.specs.Events.{EventData, acquires, finishes, moves, resets, EntryData, History}
use Rattle.service_profile.specs.Histories.{Past, past_of, passed, situation_of, machine, note_by, notes_of, Follows}
use Rattle.service_profile.specs.Machine.{Situation, next_by, note_of, fate_of, current_version, permissions_held, permission_in, refused, placed, admitted, acquired}
use Rattle.service_profile.specs.Rates.{minimum_in_window, either_reaches, after_totals, after_notes}
use Rattle.service_profile.specs.Standings.{moved, is_half_open}
use Rattle.service_profile.specs.Windows.{in_window, windowed, totals_of}
use Rattle.service_laws.specs.Promises.{Trips, IsReasonToOpen}
use Rattle.book.proofs.Permissions.{note_refused}
use Rattle.service_laws.proofs.Ways.{Way, asks, turns_away, concludes, gives_back, adds, leads, starts_anew, line_way, line_taken}

-- ---- the test of the machine, as arithmetic

abbrev is_enough : ConfigParts → List Note → Bool
is_enough config notes = nat_le (minimum_in_window config) (length notes) && either_reaches config (totals_of notes)

-- ---- where a note leads in CLOSED

closed_after : (config : ConfigParts) (moment : ℕ) (standing : Standing) (notes : List Note) → standing.state ≡ state.Closed
    → after_notes config moment standing notes ≡ (if is_enough config (in_window config moment notes) then moved state.Open moment standing else standing)
closed_after config moment standing notes stands = ap (λ (s : State). after_totals config moment standing s (totals_of (windowed config s moment notes))) stands

-- what a note that a verdict makes leads to
pub record IsNoted (config : ConfigParts) (moment : ℕ) (standing : Standing) (notes : List Note) (event : EventData) (d : Decision) (note : Note) : Type 0 where
  pub noted : note_by config moment event d.reply ≡ Some note
  pub next : d.next ≡ (if is_enough config (in_window config moment (notes ++ note ∷ [])) then moved state.Open moment standing else standing)

-- in CLOSED a line makes a note, or leaves the breaker as it stands, or an operator moves it
pub data FromClosed (config : ConfigParts) (moment : ℕ) (standing : Standing) (notes : List Note) (event : EventData) (d : Decision) : Type 0 where
  notes_it : (note : Note) → IsNoted config moment standing notes event d note → FromClosed config moment standing notes event d
  stays : note_by config moment event d.reply ≡ None → d.next ≡ standing → FromClosed config moment standing notes event d
  is_led : (to : State) → note_by config moment event d.reply ≡ None → event ≡ moves to → d.next ≡ moved to moment standing → FromClosed config moment standing notes event d
  is_reset : note_by config moment event d.reply ≡ None → event ≡ resets → d.next ≡ moved state.Closed moment standing → FromClosed config moment standing notes event d

concluded_closed : (f : Fate) (config : ConfigParts) (moment : ℕ) (standing : Standing) (notes : List Note) (work : JudgedData) (ticket : ℕ) (v : Verdict) (steps version : ℕ) → standing.state ≡ state.Closed
    → FromClosed config moment standing notes (finishes work ticket) (record {
      reply = reply.Finished f v steps version (next_by f config moment standing notes (note_of config moment v work.outcome)).state;
      next = next_by f config moment standing notes (note_of config moment v work.outcome);
    })
concluded_closed fate.Recorded config moment standing notes work ticket v steps version stands =
    notes_it (note_of config moment v work.outcome) (record { noted = refl; next = closed_after config moment standing (notes ++ note_of config moment v work.outcome ∷ []) stands })
concluded_closed fate.Ignored config moment standing notes work ticket v steps version stands = stays refl refl
concluded_closed fate.Off config moment standing notes work ticket v steps version stands = stays refl refl
concluded_closed fate.Stale config moment standing notes work ticket v steps version stands = stays refl refl

placed_closed : (test : Bool) (config : ConfigParts) (moment : ℕ) (standing : Standing) (notes : List Note) (ticket version : ℕ) (st : State)
    → FromClosed config moment standing notes acquires (if test then refused standing refusal.BulkheadFull else record { reply = reply.Permitted ticket version st; next = standing })
placed_closed test config moment standing notes ticket version st = search rules

from_closed : (s : Situation) (moment : ℕ) (event : EventData) (d : Decision) → s.standing.state ≡ state.Closed → Way s moment event d → FromClosed s.config moment s.standing s.notes event d
from_closed s moment event d stands (asks e is) =
    let placed_so : acquired s moment ≡ placed s s.standing = ap (λ (st : State). admitted s (permission_in st s.config s.standing (length s.notes) (permissions_held s.standing.period s.open_tickets) moment)) stands in
    rw (e, is, placed_so) (placed_closed (nat_le s.config.max_concurrent_calls (length s.open_tickets)) s.config moment s.standing s.notes s.next_ticket (current_version s) s.standing.state)
from_closed s moment event d stands (turns_away number is) = rw is (stays (note_refused s.config moment event number) refl)
from_closed s moment event d stands (concludes work ticket t j e found is) =
    rw (e, is) (concluded_closed (fate_of s.standing t.period j.verdict) s.config moment s.standing s.notes work ticket j.verdict j.steps t.version stands)
from_closed s moment event d stands (gives_back ticket t e found is) = rw (e, is) (stays refl refl)
from_closed s moment event d stands (adds program version e is) = rw (e, is) (stays refl refl)
from_closed s moment event d stands (leads to e is) = rw (e, is) (is_led to refl refl refl)
from_closed s moment event d stands (starts_anew e is) = rw (e, is) (is_reset refl refl refl)

-- ---- lines

closed_line : (past : Past) (line : EntryData) → Follows past line → past.standing.state ≡ state.Closed → FromClosed past.opening.config line.moment past.standing (notes_of past) line.event (machine past line.moment line.event)
closed_line past line follows stands = from_closed (situation_of past) line.moment line.event (machine past line.moment line.event) stands (line_way past line follows (ap is_half_open stands))

why : (past : Past) (line : EntryData) → Follows past line → past.standing.state ≡ state.Closed
    → FromClosed past.opening.config line.moment past.standing (notes_of past) line.event (machine past line.moment line.event) → (machine past line.moment line.event).next.state ≡ state.Open → IsReasonToOpen past line
why past line follows stands a opens = search rules

pub opened_why : (history : History) (line : EntryData) → Follows (past_of history) line → (past_of history).standing.state ≡ state.Closed → (passed (past_of history) line).standing.state ≡ state.Open → IsReasonToOpen (past_of history) line
opened_why history line follows stands opens = why (past_of history) line follows stands (closed_line (past_of history) line follows stands) opens

by_trip : (past : Past) (line : EntryData) → Follows past line → Trips past line
    → FromClosed past.opening.config line.moment past.standing (notes_of past) line.event (machine past line.moment line.event) → (machine past line.moment line.event).next ≡ moved state.Open line.moment past.standing
by_trip past line follows trips a = search rules

by_reason : (past : Past) (line : EntryData) → Follows past line → past.standing.state ≡ state.Closed → IsReasonToOpen past line → (machine past line.moment line.event).next ≡ moved state.Open line.moment past.standing
by_reason past line follows stands a = search (rules, by_trip, closed_line, line_taken)

pub opened_then : (history : History) (line : EntryData) → Follows (past_of history) line → (past_of history).standing.state ≡ state.Closed → IsReasonToOpen (past_of history) line → (passed (past_of history) line).standing ≡ moved state.Open line.moment (past_of history).standing
opened_then history line follows stands reason = by_reason (past_of history) line follows stands reason
