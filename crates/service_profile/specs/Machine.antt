-- The documented machine: what a breaker, a bulkhead and a registry of versions answer to an event, and where the breaker stands afterwards (CircuitBreaker and Bulkhead in the Resilience4j documentation).
use Rattle.std.specs.Prelude.{ℕ, suc, ◌+◌, ◌-◌, ◌==◌, nat_le, nat_lt, ◌&&◌, not, Bool, true, false, if◌then◌else◌, List, [], ◌∷◌, ◌++◌, length, slice_get, Option, Some, None}
use Rattle.std.specs.Str.{bytes_eq}
use Rattle.std.specs.List.{filter, find, list_any, flat_map}
use Rattle.bpf_profile.specs.Layouts.{number_of}
use Rattle.bpf_profile.specs.declared.machine.Verdict.{Verdict}
use Rattle.bpf_profile.specs.declared.machine.Verdict.TheVariants as verdict
use Rattle.bpf_profile.specs.Outcomes.{Outcome, duration_of}
use Rattle.bpf_profile.specs.Spelling.{slot_bytes}
use Rattle.bpf_profile.specs.JudgedWork.{JudgedData}
use Rattle.refusals.specs.declared.RefusalNumber.{RefusalNumber}
use Rattle.refusals.specs.declared.RefusalNumber.TheVariants as refusal
use Rattle.bpf_profile.specs.Programs.{VerifiedProgram}
use Rattle.service_profile.specs.declared.standings.Standing.{Standing}
use Rattle.service_profile.specs.declared.decisions.Permission.{Permission}
use Rattle.service_profile.specs.declared.configuration.ConfigParts.{ConfigParts}
use Rattle.service_profile.specs.declared.decisions.Decision.{Decision}
use Rattle.service_profile.specs.declared.tickets.OpenTicket.{OpenTicket}
use Rattle.service_profile.specs.declared.replies.Fate.{Fate}
use Rattle.service_profile.specs.declared.replies.Fate.TheVariants as fate
use Rattle.service_profile.specs.declared.replies.Reply.{Reply}
use Rattle.service_profile.specs.declared.replies.Reply.TheVariants as reply
use Rattle.service_profile.specs.declared.states.State.{State}
use Rattle.service_profile.specs.declared.states.State.TheVariants as state
use Rattle.service_profile.specs.declared.notes.Note.{Note}
use Rattle.service_profile.specs.Limits.{most_versions, most_entries}
use Rattle.service_profile.specs.Events.{EventData, acquires, finishes, releases, installs, moves, resets}
use Rattle.service_profile.specs.Rates.{after_notes}
use Rattle.service_profile.specs.Standings.{moved, is_half_open, is_disabled}
use Rattle.service_profile.specs.declared.decisions.Judgement.{Judgement}
use Rattle.service_profile.specs.Verdicts.{judgement}

-- all that an answer depends on
pub record Situation : Type 0 where
  pub config : ConfigParts
  pub standing : Standing
  -- the notes of the present period, the oldest first
  pub notes : List Note
  -- the programs of all versions since the opening, from the first of these versions on
  pub first_version : ℕ
  pub programs : List VerifiedProgram
  -- how many of the first of these programs were dropped, so that the others are held
  pub dropped : ℕ
  pub open_tickets : List OpenTicket
  pub next_ticket : ℕ
  -- how many lines the journal holds
  pub held : ℕ

abbrev pub refused : Standing → RefusalNumber → Decision
refused standing number = record { reply = reply.Refused number; next = standing }

-- right after a transition the period has no notes
abbrev pub in_state : State → ℕ → Situation → Situation
in_state state moment s = record s { standing = moved state moment s.standing; notes = [] }

-- ---- a longest stay in HALF_OPEN, where one is configured

-- at a moment a breaker has stood in HALF_OPEN for its longest stay
abbrev pub has_overstayed : ConfigParts → Standing → ℕ → Bool
has_overstayed config standing moment =
    nat_lt 0 config.max_wait_duration_in_half_open_state
    && (is_half_open standing.state && nat_le config.max_wait_duration_in_half_open_state (moment - standing.since))

abbrev pub overstays : Situation → ℕ → Bool
overstays s moment = has_overstayed s.config s.standing moment

-- the situation in which an event at a moment is taken
abbrev pub at_moment : Situation → ℕ → Situation
at_moment s moment = if overstays s moment then in_state state.Open moment s else s

-- ---- acquire: the breaker is asked first, then the bulkhead

abbrev pub current_version : Situation → ℕ
current_version s = s.first_version + (length s.programs - 1)

-- the open tickets of the present period hold its permissions
abbrev pub permissions_held : ℕ → List OpenTicket → ℕ
permissions_held period tickets = length (filter (λ ticket. ticket.period == period) tickets)

-- in HALF_OPEN the permissions that are held and the notes are at most the permitted number of calls
abbrev pub half_open_permission : ConfigParts → Standing → ℕ → ℕ → Permission
half_open_permission config standing noted held = record {
  given = nat_lt (held + noted) config.permitted_number_of_calls_in_half_open_state;
  standing = standing;
}

-- once the wait is over, a new period begins in HALF_OPEN, with no notes and no permission held
abbrev pub open_permission : ConfigParts → Standing → ℕ → Permission
open_permission config standing moment =
    if nat_le config.wait_duration_in_open_state (moment - standing.since)
    then half_open_permission config (moved state.HalfOpen moment standing) 0 0
    else record { given = false; standing = standing }

-- what the breaker says to a call at a moment, with so many notes and so many permissions held in its period
abbrev pub permission_in : State → ConfigParts → Standing → ℕ → ℕ → ℕ → Permission
permission_in state.Closed config standing noted held moment = record { given = true; standing = standing }
permission_in state.MetricsOnly config standing noted held moment = record { given = true; standing = standing }
permission_in state.Disabled config standing noted held moment = record { given = true; standing = standing }
permission_in state.ForcedOpen config standing noted held moment = record { given = false; standing = standing }
permission_in state.Open config standing noted held moment = open_permission config standing moment
permission_in state.HalfOpen config standing noted held moment = half_open_permission config standing noted held

-- a place in the bulkhead, and a ticket with the current version
abbrev pub placed : Situation → Standing → Decision
placed s standing =
    if nat_le s.config.max_concurrent_calls (length s.open_tickets)
    then refused standing refusal.BulkheadFull
    else record { reply = reply.Permitted s.next_ticket (current_version s) standing.state; next = standing }

abbrev pub admitted : Situation → Permission → Decision
admitted s permission = if permission.given then placed s permission.standing else refused permission.standing refusal.CallNotPermitted

abbrev pub acquired : Situation → ℕ → Decision
acquired s moment = admitted s (permission_in s.standing.state s.config s.standing (length s.notes) (permissions_held s.standing.period s.open_tickets) moment)

-- ---- tickets, and the programs of versions

-- the number was given to a ticket, in this opening or an earlier one
abbrev pub is_issued : Situation → ℕ → Bool
is_issued s ticket = nat_le 1 ticket && nat_lt ticket s.next_ticket

abbrev pub open_ticket : List OpenTicket → ℕ → Option OpenTicket
open_ticket tickets number = find (λ ticket. ticket.number == number) tickets

abbrev pub is_open : List OpenTicket → ℕ → Bool
is_open tickets number = list_any (λ ticket. ticket.number == number) tickets

abbrev pub program_from : ℕ → List VerifiedProgram → ℕ → Option VerifiedProgram
program_from first programs version = if nat_le first version then slice_get programs (version - first) else None

abbrev pub bytes_of : VerifiedProgram → List ℕ
bytes_of program = flat_map slot_bytes program.slots

-- two programs are one where their bytes and their layouts are the same
abbrev pub same_program : VerifiedProgram → VerifiedProgram → Bool
same_program a b = bytes_eq (bytes_of a) (bytes_of b) && (number_of a.layout == number_of b.layout)

-- ---- how work is judged

-- by the program of the ticket's version, and the work that is brought
abbrev pub Judging : Type 0
Judging = VerifiedProgram → JudgedData → Judgement

-- the meaning's verdict and steps for that program, on the work's outcome
abbrev pub meant : Judging
meant program work = judgement program work.outcome

-- what work says of its outcome
abbrev pub judgement_of : JudgedData → Judgement
judgement_of work = record { verdict = work.verdict; steps = work.steps }

-- the verdict and the steps that the work carries
abbrev pub carried : Judging
carried program work = judgement_of work

-- ---- finish

abbrev pub is_ignored : Verdict → Bool
is_ignored verdict.Ignored = true
is_ignored other = false

abbrev pub is_failure : Verdict → Bool
is_failure verdict.Failure = true
is_failure other = false

-- what becomes of a verdict under a ticket of a period
abbrev pub fate_of : Standing → ℕ → Verdict → Fate
fate_of standing period verdict =
    if not (period == standing.period) then fate.Stale
    else (if is_disabled standing.state then fate.Off
    else (if is_ignored verdict then fate.Ignored
    else fate.Recorded))

abbrev pub note_of : ConfigParts → ℕ → Verdict → Outcome → Note
note_of config moment verdict outcome = record {
  moment = moment;
  failed = is_failure verdict;
  slow = nat_lt config.slow_call_duration_threshold (duration_of outcome);
}

abbrev pub next_by : Fate → ConfigParts → ℕ → Standing → List Note → Note → Standing
next_by fate.Recorded config moment standing notes note = after_notes config moment standing (notes ++ note ∷ [])
next_by other config moment standing notes note = standing

abbrev pub finished_reply : Fate → Judgement → ℕ → Standing → Decision
finished_reply fate judgement version next = record {
  reply = reply.Finished fate judgement.verdict judgement.steps version next.state;
  next = next;
}

-- a verdict and its steps decide
abbrev pub concluded : Situation → ℕ → OpenTicket → Outcome → Judgement → Decision
concluded s moment ticket outcome judgement =
    finished_reply
    (fate_of s.standing ticket.period judgement.verdict)
    judgement
    ticket.version
    (next_by (fate_of s.standing ticket.period judgement.verdict) s.config moment s.standing s.notes (note_of s.config moment judgement.verdict outcome))

-- the judged program has to be that of the ticket's version
abbrev pub finished_by : Judging → Situation → ℕ → OpenTicket → JudgedData → Option VerifiedProgram → Decision
finished_by judging s moment ticket work None = refused s.standing refusal.Stranger
finished_by judging s moment ticket work (Some program) =
    if same_program work.program program
    then concluded s moment ticket work.outcome (judging program work)
    else refused s.standing refusal.Stranger

abbrev pub finished_under : Judging → Situation → ℕ → JudgedData → Option OpenTicket → Decision
finished_under judging s moment work None = refused s.standing refusal.TicketSpent
finished_under judging s moment work (Some ticket) = finished_by judging s moment ticket work (program_from s.first_version s.programs ticket.version)

abbrev pub finished : Judging → Situation → ℕ → JudgedData → ℕ → Decision
finished judging s moment work ticket =
    if is_issued s ticket then finished_under judging s moment work (open_ticket s.open_tickets ticket) else refused s.standing refusal.NoTicket

-- ---- the other events

abbrev pub released_under : Situation → Option OpenTicket → Decision
released_under s None = refused s.standing refusal.TicketSpent
released_under s (Some ticket) = record { reply = reply.Released s.standing.state; next = s.standing }

abbrev pub released : Situation → ℕ → Decision
released s ticket = if is_issued s ticket then released_under s (open_ticket s.open_tickets ticket) else refused s.standing refusal.NoTicket

-- at most 256 versions are held
abbrev pub installed : Situation → VerifiedProgram → Decision
installed s program =
    if nat_le most_versions (length s.programs - s.dropped)
    then refused s.standing refusal.VersionsFull
    else record { reply = reply.Installed (s.first_version + length s.programs) program.budget program.layout; next = s.standing }

abbrev pub moved_to : Situation → ℕ → State → Decision
moved_to s moment state = record { reply = reply.Moved state (suc s.standing.period); next = moved state moment s.standing }

-- ---- all events

abbrev pub decided : Judging → Situation → ℕ → EventData → Decision
decided judging s moment acquires = acquired s moment
decided judging s moment (finishes work ticket) = finished judging s moment work ticket
decided judging s moment (releases ticket) = released s ticket
decided judging s moment (installs program) = installed s program
decided judging s moment (moves state) = moved_to s moment state
decided judging s moment resets = moved_to s moment state.Closed

-- the journal holds 65,536 lines, and has a line left for the end of each open ticket
abbrev pub used : Situation → ℕ
used s = s.held + length s.open_tickets

abbrev pub is_full : Situation → EventData → Bool
is_full s acquires = nat_lt (most_entries - 2) (used s)
is_full s (finishes work ticket) = nat_lt (most_entries - 1) (used s) && not (is_open s.open_tickets ticket)
is_full s (releases ticket) = nat_lt (most_entries - 1) (used s) && not (is_open s.open_tickets ticket)
is_full s (installs program) = nat_lt (most_entries - 1) (used s)
is_full s (moves state) = nat_lt (most_entries - 1) (used s)
is_full s resets = nat_lt (most_entries - 1) (used s)

-- a full journal is answered before anything else is looked at
unfoldable pub decision_by : Judging → Situation → ℕ → EventData → Decision
decision_by judging s moment event = if is_full s event then refused s.standing refusal.JournalFull else decided judging (at_moment s moment) moment event

-- the documented machine takes the meaning's verdict
abbrev pub decision : Situation → ℕ → EventData → Decision
decision s moment event = decision_by meant s moment event

-- ---- which replies stand in the journal

abbrev pub is_entered_refusal : RefusalNumber → Bool
is_entered_refusal refusal.CallNotPermitted = true
is_entered_refusal refusal.BulkheadFull = true
is_entered_refusal refusal.NoTicket = true
is_entered_refusal refusal.TicketSpent = true
is_entered_refusal other = false

abbrev pub is_entered : Reply → Bool
is_entered (reply.Refused number) = is_entered_refusal number
is_entered other = true

abbrev pub is_not_permitted : RefusalNumber → Bool
is_not_permitted refusal.CallNotPermitted = true
is_not_permitted other = false

-- whether a call was refused by the breaker
abbrev pub is_refused_call : Reply → Bool
is_refused_call (reply.Refused number) = is_not_permitted number
is_refused_call other = false
