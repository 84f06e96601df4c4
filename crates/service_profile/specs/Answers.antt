-- What a book answers to calls, by its history.
use Rattle.std.specs.Prelude.{◌≡◌, ℕ, suc, max, min, ◌-◌, ◌<◌, nat_lt, ◌||◌, Bool, true, false, if◌then◌else◌, List, [], ◌∷◌, ◌++◌, length, take, drop, slice_get, Option, Some, None, Result, Ok, Err}
use Rattle.std.specs.List.{filter_map, fold}
use Rattle.std.specs.Option.{ok_or, option_map_or}
use Rattle.refusals.specs.declared.RefusalNumber.{RefusalNumber}
use Rattle.refusals.specs.declared.RefusalNumber.TheVariants as refusal
use Rattle.bpf_profile.specs.Programs.{VerifiedProgram}
use Rattle.service_profile.specs.declared.decisions.Decision.{Decision}
use Rattle.service_profile.specs.declared.readings.Reading.{Reading}
use Rattle.service_profile.specs.declared.tickets.OpenTicket.{OpenTicket}
use Rattle.service_profile.specs.declared.replies.Reply.{Reply}
use Rattle.service_profile.specs.declared.replies.Reply.TheVariants as reply
use Rattle.service_profile.specs.declared.notes.Totals.{Totals}
use Rattle.service_profile.specs.Limits.{most_page_entries, greatest_number}
use Rattle.service_profile.specs.Events.{EventData, EntryData, line, Opening, Rolled, History, history_of, rolled_to}
use Rattle.service_profile.specs.Histories.{Past, past_of, raised, greatest, next_line, install_at, situation_of, refused_of}
use Rattle.service_profile.specs.Machine.{Situation, Judging, meant, decision_by, is_entered, is_issued, open_ticket, program_from, current_version}
use Rattle.service_profile.specs.Rates.{minimum, shown_rate}
use Rattle.service_profile.specs.Windows.{totals_of, windowed}

-- ---- an event

-- the machine's answer to an event, at its raised moment
abbrev pub answer_by : Judging → History → ℕ → EventData → Decision
answer_by judging history moment event = decision_by judging (situation_of (past_of history)) (raised (past_of history) moment) event

-- the line of an event
abbrev pub line_by : Judging → History → ℕ → ℕ → EventData → EntryData
line_by judging history seat moment event =
    line (next_line (past_of history)) seat event (raised (past_of history) moment) (answer_by judging history moment event).reply

abbrev pub with_line : History → EntryData → History
with_line history line = record { opening = history.opening; lines = history.lines ++ line ∷ []; rolled = history.rolled }

-- the history after an event: one line more, or nothing new where the reply isn't entered
abbrev pub applied_by : Judging → History → ℕ → ℕ → EventData → History
applied_by judging history seat moment event =
    if is_entered (answer_by judging history moment event).reply then with_line history (line_by judging history seat moment event) else history

-- the machine's reply and its history; or no memory for the line, and nothing changed
pub data IsAppliedBy (judging : Judging) (history : History) (seat moment : ℕ) (event : EventData) (r : Reply) (after : History) : Type 0 where
  as_documented : r ≡ (answer_by judging history moment event).reply → after ≡ applied_by judging history seat moment event → IsAppliedBy judging history seat moment event r after
  out_of_memory : r ≡ reply.Refused refusal.ServiceOutOfMemory → is_entered (answer_by judging history moment event).reply ≡ true → after ≡ history → IsAppliedBy judging history seat moment event r after

-- the same by the documented machine, which takes the meaning's verdict
abbrev pub answer : History → ℕ → EventData → Decision
answer history moment event = answer_by meant history moment event

abbrev pub line_of : History → ℕ → ℕ → EventData → EntryData
line_of history seat moment event = line_by meant history seat moment event

abbrev pub applied : History → ℕ → ℕ → EventData → History
applied history seat moment event = applied_by meant history seat moment event

abbrev pub IsApplied : History → ℕ → ℕ → EventData → Reply → History → Type 0
IsApplied history seat moment event r after = IsAppliedBy meant history seat moment event r after

-- ---- a look: the program that judges under a ticket

abbrev pub looked_under : Situation → Option OpenTicket → Result VerifiedProgram RefusalNumber
looked_under s None = Err refusal.TicketSpent
looked_under s (Some ticket) = ok_or (program_from s.first_version s.programs ticket.version) refusal.TicketSpent

abbrev pub looked : Situation → ℕ → Result VerifiedProgram RefusalNumber
looked s ticket = if is_issued s ticket then looked_under s (open_ticket s.open_tickets ticket) else Err refusal.NoTicket

abbrev pub map_ok : {A B E : Type 0} → (A → B) → Result A E → Result B E
map_ok f (Ok a) = Ok (f a)
map_ok f (Err e) = Err e

-- the program of the ticket's version, or why there is none; or no memory for one more owner of it
pub data IsLooked (history : History) (ticket : ℕ) (result : Result VerifiedProgram RefusalNumber) : Type 0 where
  looks : result ≡ looked (situation_of (past_of history)) ticket → IsLooked history ticket result
  no_owner : (program : VerifiedProgram) → result ≡ Err refusal.ServiceOutOfMemory → looked (situation_of (past_of history)) ticket ≡ Ok program → IsLooked history ticket result

-- ---- a reading

abbrev pub reading_by : Situation → Totals → ℕ → ℕ → Reading
reading_by s totals refused last = record {
  state = s.standing.state;
  period = s.standing.period;
  version = current_version s;
  budget = option_map_or (λ program. program.budget) (program_from s.first_version s.programs (current_version s)) 0;
  total = totals.total;
  failed = totals.failed;
  slow = totals.slow;
  failure_rate = shown_rate (minimum s.config s.standing.state) totals.total totals.failed;
  slow_rate = shown_rate (minimum s.config s.standing.state) totals.total totals.slow;
  open_tickets = length s.open_tickets;
  free = s.config.max_concurrent_calls - length s.open_tickets;
  not_permitted = refused;
  entries = last;
  oldest_ticket = slice_get s.open_tickets 0;
}

-- what stands at a moment, which is raised for the answer alone
abbrev pub reading : Past → ℕ → Reading
reading past moment =
    reading_by (situation_of past)
    (totals_of (windowed past.opening.config past.standing.state (raised past moment) (situation_of past).notes))
    (refused_of past)
    (next_line past - 1)

-- ---- lines, from a number on

-- the lines that the book holds: all but those that were handed out
abbrev pub held_lines : History → List EntryData
held_lines history = drop history.rolled.lines history.lines

-- of these the ones from a number on
abbrev pub lines_from : History → ℕ → List EntryData
lines_from history from = drop (max history.rolled.lines (from - history.opening.line)) history.lines

-- ---- a page: at most 100 lines, from a number on

abbrev pub page_from : History → ℕ → List EntryData
page_from history from = take most_page_entries (lines_from history from)

-- the page; or no memory for copies, where there is a line to be copied
pub data IsPage (history : History) (from : ℕ) (result : Result (List EntryData) RefusalNumber) : Type 0 where
  copies : result ≡ Ok (page_from history from) → IsPage history from result
  no_copy : 0 < length (page_from history from) → result ≡ Err refusal.ServiceOutOfMemory → IsPage history from result

-- ---- a cut: the entries are handed out, and the book opens anew

abbrev pub last_of : {A : Type 0} → A → List A → A
last_of x [] = x
last_of x (y ∷ ys) = last_of y ys

-- the program of new tickets
abbrev pub current_program : Past → VerifiedProgram
current_program past = last_of past.opening.program (filter_map install_at past.stages)

abbrev pub is_past_the_limit : ℕ → Bool
is_past_the_limit number = nat_lt greatest_number number

-- a number that would go on is past its limit
abbrev pub is_worn_out : Past → Bool
is_worn_out past =
    is_past_the_limit (next_line past) || (is_past_the_limit (situation_of past).next_ticket
    || (is_past_the_limit (suc past.standing.period) || is_past_the_limit (suc (current_version (situation_of past)))))

abbrev pub is_some_open : List OpenTicket → Bool
is_some_open [] = false
is_some_open (ticket ∷ tickets) = true

-- CLOSED, in a new period since the greatest moment, with the current program under its version; all numbers go on
abbrev pub reopened : Past → Opening
reopened past = record {
  config = past.opening.config;
  program = current_program past;
  version = current_version (situation_of past);
  period = suc past.standing.period;
  ticket = (situation_of past).next_ticket;
  line = next_line past;
  moment = greatest past;
}

-- the opening after a cut, or why there is none
abbrev pub cut : Past → Result Opening RefusalNumber
cut past =
    if is_worn_out past then Err refusal.JournalFull
    else (if is_some_open (situation_of past).open_tickets then Err refusal.TicketsOpen
    else Ok (reopened past))

-- what a cut hands out: all lines that are held, or why not
abbrev pub handed_out : History → Result Opening RefusalNumber → Result (List EntryData) RefusalNumber
handed_out history (Ok opening) = Ok (held_lines history)
handed_out history (Err number) = Err number

-- the history after a cut: the opening and no line, or the history as it was
abbrev pub after_cut : History → Result Opening RefusalNumber → History
after_cut history (Ok opening) = history_of opening []
after_cut history (Err number) = history

-- the documented cut; or no memory for the new opening, and nothing changed
pub data IsCut (history : History) (result : Result (List EntryData) RefusalNumber) (after : History) : Type 0 where
  cuts : result ≡ handed_out history (cut (past_of history)) → after ≡ after_cut history (cut (past_of history)) → IsCut history result after
  no_room : (opening : Opening) → cut (past_of history) ≡ Ok opening → result ≡ Err refusal.ServiceOutOfMemory → after ≡ history → IsCut history result after

-- ---- a roll: the entries up to a number are handed out, the programs that nobody needs any more are dropped, and all else goes on as it is

-- how many lines are handed out after it: those with numbers up to this one, and never fewer than before
abbrev pub count_up_to : History → ℕ → ℕ
count_up_to history last = max history.rolled.lines (min (length history.lines) (suc last - history.opening.line))

-- the least version of an open ticket, or else that of new tickets
abbrev pub least_version : ℕ → List OpenTicket → ℕ
least_version current tickets = fold (λ least ticket. min least ticket.version) current tickets

abbrev pub least_needed : Situation → ℕ
least_needed s = least_version (current_version s) s.open_tickets

-- how many programs are dropped after it: those of earlier versions than any open ticket and any new one has, and never fewer than before
abbrev pub count_unneeded : Situation → ℕ
count_unneeded s = max s.dropped (least_needed s - s.first_version)

abbrev pub taken_up_to : History → ℕ → Rolled
taken_up_to history last = record { lines = count_up_to history last; programs = count_unneeded (situation_of (past_of history)) }

abbrev pub rolled_up_to : History → ℕ → History
rolled_up_to history last = rolled_to (taken_up_to history last) history

-- what is handed out: the lines up to that number that are still held
abbrev pub lines_up_to : History → ℕ → List EntryData
lines_up_to history last = take (count_up_to history last - history.rolled.lines) (held_lines history)

-- what is handed out, or why nothing is: a number that would go on is past its limit
abbrev pub roll : History → ℕ → Result (List EntryData) RefusalNumber
roll history last = if is_worn_out (past_of history) then Err refusal.JournalFull else Ok (lines_up_to history last)

-- the history after a roll: more is taken out of it, or it is as it was
abbrev pub after_roll : History → ℕ → Result (List EntryData) RefusalNumber → History
after_roll history last (Ok lines) = rolled_up_to history last
after_roll history last (Err number) = history

-- the documented roll; or no memory for a list of the entries that stay, and nothing changed
pub data IsRolled (history : History) (last : ℕ) (result : Result (List EntryData) RefusalNumber) (after : History) : Type 0 where
  rolls : result ≡ roll history last → after ≡ after_roll history last (roll history last) → IsRolled history last result after
  no_room : (lines : List EntryData) → roll history last ≡ Ok lines → length lines < length (held_lines history) → result ≡ Err refusal.ServiceOutOfMemory → after ≡ history → IsRolled history last result after
