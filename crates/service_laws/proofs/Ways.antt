-- Which ways the machine's decision on an event can go, whatever the situation is.
use Rattle.std.proofs.Common.{◌≡◌, ℕ, ◌+◌, ◌-◌, nat_le, Bool, true, false, if◌then◌else◌, length, Option, Some, None, refl, sym, subst, rules}
use Rattle.bpf_profile.specs.JudgedWork.{JudgedData}
use Rattle.bpf_profile.specs.Programs.{VerifiedProgram}
use Rattle.refusals.specs.declared.RefusalNumber.{RefusalNumber}
use Rattle.refusals.specs.declared.RefusalNumber.TheVariants as refusal
use Rattle.service_profile.specs.declared.decisions.Decision.{Decision}
use Rattle.service_profile.specs.declared.decisions.Judgement.{Judgement}
use Rattle.service_profile.specs.declared.replies.Reply.TheVariants as reply
use Rattle.service_profile.specs.declared.states.State.{State}
use Rattle.service_profile.specs.declared.states.State.TheVariants as state
use Rattle.service_profile.specs.declared.tickets.OpenTicket.{OpenTicket}
use Rattle.service_profile.specs.Limits.{most_versions}
use Rattle.service_profile.specs.Events.{EventData, acquires, finishes, releases, installs, moves, resets, EntryData}
use Rattle.service_profile.specs.Histories.{Past, situation_of, machine, Follows}
use Rattle.service_profile.specs.Machine.{Situation, refused, at_moment, acquired, open_ticket, is_issued, program_from, same_program, meant, concluded, finished_by, finished_under, released_under, moved_to, decided, is_full, decision, decision_by, is_entered}
use Rattle.service_profile.specs.Standings.{is_half_open}
use Rattle.service_profile.specs.Verdicts.{judgement}

pub data Way (s : Situation) (moment : ℕ) (event : EventData) (d : Decision) : Type 0 where
  asks : event ≡ acquires → d ≡ acquired s moment → Way s moment event d
  turns_away : (number : RefusalNumber) → d ≡ refused s.standing number → Way s moment event d
  concludes : (work : JudgedData) (ticket : ℕ) (t : OpenTicket) (j : Judgement) → event ≡ finishes work ticket → open_ticket s.open_tickets ticket ≡ Some t → d ≡ concluded s moment t work.outcome j → Way s moment event d
  gives_back : (ticket : ℕ) (t : OpenTicket) → event ≡ releases ticket → open_ticket s.open_tickets ticket ≡ Some t → d ≡ record { reply = reply.Released s.standing.state; next = s.standing } → Way s moment event d
  adds : (program : VerifiedProgram) (version : ℕ) → event ≡ installs program → d ≡ record { reply = reply.Installed version program.budget program.layout; next = s.standing } → Way s moment event d
  leads : (to : State) → event ≡ moves to → d ≡ moved_to s moment to → Way s moment event d
  starts_anew : event ≡ resets → d ≡ moved_to s moment state.Closed → Way s moment event d

either_way : (test : Bool) (s : Situation) (moment : ℕ) (event : EventData) (a b : Decision) → Way s moment event a → Way s moment event b → Way s moment event (if test then a else b)
either_way true s moment event a b p q = p
either_way false s moment event a b p q = q

finished_by_way : (s : Situation) (moment : ℕ) (work : JudgedData) (ticket : ℕ) (t : OpenTicket) (program : Option VerifiedProgram) → open_ticket s.open_tickets ticket ≡ Some t → Way s moment (finishes work ticket) (finished_by meant s moment t work program)
finished_by_way s moment work ticket t None found = turns_away refusal.Stranger refl
finished_by_way s moment work ticket t (Some program) found =
    either_way (same_program work.program program) s moment (finishes work ticket) (concluded s moment t work.outcome (judgement program work.outcome)) (refused s.standing refusal.Stranger)
    (concludes work ticket t (judgement program work.outcome) refl found refl)
    (turns_away refusal.Stranger refl)

finished_under_way : (s : Situation) (moment : ℕ) (work : JudgedData) (ticket : ℕ) (found : Option OpenTicket) → open_ticket s.open_tickets ticket ≡ found → Way s moment (finishes work ticket) (finished_under meant s moment work found)
finished_under_way s moment work ticket None found = turns_away refusal.TicketSpent refl
finished_under_way s moment work ticket (Some t) found = finished_by_way s moment work ticket t (program_from s.first_version s.programs t.version) found

released_under_way : (s : Situation) (moment : ℕ) (ticket : ℕ) (found : Option OpenTicket) → open_ticket s.open_tickets ticket ≡ found → Way s moment (releases ticket) (released_under s found)
released_under_way s moment ticket None found = turns_away refusal.TicketSpent refl
released_under_way s moment ticket (Some t) found = gives_back ticket t refl found refl

decided_way : (s : Situation) (moment : ℕ) (event : EventData) → Way s moment event (decided meant s moment event)
decided_way s moment acquires = asks refl refl
decided_way s moment (finishes work ticket) =
    either_way (is_issued s ticket) s moment (finishes work ticket) (finished_under meant s moment work (open_ticket s.open_tickets ticket)) (refused s.standing refusal.NoTicket)
    (finished_under_way s moment work ticket (open_ticket s.open_tickets ticket) refl)
    (turns_away refusal.NoTicket refl)
decided_way s moment (releases ticket) =
    either_way (is_issued s ticket) s moment (releases ticket) (released_under s (open_ticket s.open_tickets ticket)) (refused s.standing refusal.NoTicket)
    (released_under_way s moment ticket (open_ticket s.open_tickets ticket) refl)
    (turns_away refusal.NoTicket refl)
decided_way s moment (installs program) =
    either_way (nat_le most_versions (length s.programs - s.dropped)) s moment (installs program) (refused s.standing refusal.VersionsFull) (record { reply = reply.Installed (s.first_version + length s.programs) program.budget program.layout; next = s.standing })
    (turns_away refusal.VersionsFull refl)
    (adds program (s.first_version + length s.programs) refl refl)
decided_way s moment (moves to) = leads to refl refl
decided_way s moment resets = starts_anew refl refl

-- ---- an event that makes an entry met no full journal, and is taken in the situation of its moment

past_full : (test : Bool) (a b : Decision) → is_entered a.reply ≡ false → is_entered (if test then a else b).reply ≡ true → (if test then a else b) ≡ b
past_full test a b un entered = search rules

pub taken : (s : Situation) (moment : ℕ) (event : EventData) → is_entered (decision s moment event).reply ≡ true → decision s moment event ≡ decided meant (at_moment s moment) moment event
unfolding decision_by
taken s moment event entered = past_full (is_full s event) (refused s.standing refusal.JournalFull) (decided meant (at_moment s moment) moment event) refl entered

pub way : (s : Situation) (moment : ℕ) (event : EventData) → is_entered (decision s moment event).reply ≡ true → Way (at_moment s moment) moment event (decision s moment event)
way s moment event entered = subst (Way (at_moment s moment) moment event) (sym (taken s moment event entered)) (decided_way (at_moment s moment) moment event)

pub in_time : (s : Situation) (moment : ℕ) → is_half_open s.standing.state ≡ false → at_moment s moment ≡ s
in_time s moment other = search rules

-- a line that the machine writes is taken as it comes, where the breaker doesn't stand in HALF_OPEN before it
pub line_taken : (past : Past) (line : EntryData) → Follows past line → is_half_open past.standing.state ≡ false → machine past line.moment line.event ≡ decided meant (situation_of past) line.moment line.event
line_taken past line follows other = search (rules, taken, in_time)

pub line_way : (past : Past) (line : EntryData) → Follows past line → is_half_open past.standing.state ≡ false → Way (situation_of past) line.moment line.event (machine past line.moment line.event)
line_way past line follows other = search (rules, line_taken, decided_way)
