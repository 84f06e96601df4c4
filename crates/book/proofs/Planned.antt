-- What is planned where an event is refused, and under a ticket that is found.
use Rattle.std.proofs.Common.{◌≡◌, ◌-◌, ◌≢◌, ℕ, ◌+◌, ◌<◌, ◌≤◌, nat_le, length, ◌++◌, not, Bool, true, false, if◌then◌else◌, List, [], ◌∷◌, Option, Some, None, Result, Ok, Err, refl, ap, sym, ◌∙◌, rules}
use Rattle.service_profile.specs.Limits.{most_versions}
use Rattle.bpf_profile.specs.declared.layout.Layout.{Layout}
use Rattle.bpf_profile.specs.JudgedWork.{JudgedData}
use Rattle.refusals.specs.declared.RefusalNumber.TheVariants as refusal
use Rattle.bpf_profile.specs.Programs.{VerifiedProgram}
use Rattle.refusals.specs.declared.RefusalNumber.{RefusalNumber}
use Rattle.registry.specs.Registries.{spent_or_open}
use Rattle.service_profile.specs.declared.decisions.Decision.{Decision}
use Rattle.service_profile.specs.declared.decisions.Permission.{Permission}
use Rattle.service_profile.specs.declared.notes.Note.{Note}
use Rattle.service_profile.specs.declared.replies.Fate.{Fate}
use Rattle.service_profile.specs.declared.replies.Fate.TheVariants as fate
use Rattle.service_profile.specs.declared.replies.Reply.TheVariants as reply
use Rattle.service_profile.specs.Rates.{after_notes}
use Rattle.service_profile.specs.declared.standings.Standing.{Standing}
use Rattle.service_profile.specs.declared.tickets.OpenTicket.{OpenTicket}
use Rattle.service_profile.specs.Events.{EventData, acquires, finishes, installs}
use Rattle.service_profile.specs.Machine.{Situation, refused, permission_in, permissions_held, acquired, current_version, judgement_of, fate_of, note_of, concluded, same_program, program_from, is_issued, open_ticket, finished, finished_by, finished_under, released, released_under, installed, is_full, decided, at_moment, decision, meant, decision_by}
use Rattle.book.specs.declared.plans.Plan.{Plan}
use Rattle.book.specs.Effects.{planned, permitted_plan, refused_plan, reported_plan}
use Rattle.book.specs.Finding.{ticket_in}

-- ---- the ticket that is found has the number that was asked for

pub found_number : (tickets : List OpenTicket) (number : ℕ) (ticket : OpenTicket) → open_ticket tickets number ≡ Some ticket → ticket.number ≡ number
found_number [] number ticket e = let bad : ◌≡◌ {A = Option OpenTicket} None (Some ticket) = e in cc
found_number (t ∷ tickets) number ticket e = search (rules, found_number tickets number ticket)

-- what is decided of a ticket that is open, or why it is not open
abbrev pub by_ticket : Situation → (OpenTicket → Decision) → Result OpenTicket RefusalNumber → Decision
by_ticket s decide (Ok ticket) = decide ticket
by_ticket s decide (Err number) = refused s.standing number

found_so : (s : Situation) (decide : Option OpenTicket → Decision) (issued : Bool) (found : Option OpenTicket) → decide None ≡ refused s.standing refusal.TicketSpent
    → (if issued then decide found else refused s.standing refusal.NoTicket) ≡ by_ticket s (λ ticket. decide (Some ticket)) (if issued then spent_or_open found else Err refusal.NoTicket)
found_so s decide true None spent = spent
found_so s decide true (Some ticket) spent = refl
found_so s decide false found spent = refl

pub finished_so : (s : Situation) (moment : ℕ) (work : JudgedData) (number : ℕ) (found : Result OpenTicket RefusalNumber) → found ≡ ticket_in s number → finished meant s moment work number ≡ by_ticket s (λ ticket. finished_under meant s moment work (Some ticket)) found
finished_so s moment work number found is = found_so s (finished_under meant s moment work) (is_issued s number) (open_ticket s.open_tickets number) refl ∙ ap (by_ticket s _) (sym is)

pub released_so : (s : Situation) (number : ℕ) (found : Result OpenTicket RefusalNumber) → found ≡ ticket_in s number → released s number ≡ by_ticket s (λ ticket. released_under s (Some ticket)) found
released_so s number found is = found_so s (released_under s) (is_issued s number) (open_ticket s.open_tickets number) refl ∙ ap (by_ticket s _) (sym is)

opens : (issued : Bool) (found : Option OpenTicket) (ticket : OpenTicket) → Ok ticket ≡ (if issued then spent_or_open found else Err refusal.NoTicket) → found ≡ Some ticket
opens true None ticket is = let bad : ◌≡◌ {A = Result OpenTicket RefusalNumber} (Ok ticket) (Err refusal.TicketSpent) = is in cc
opens true (Some found) ticket is = let same : ◌≡◌ {A = Result OpenTicket RefusalNumber} (Ok ticket) (Ok found) = is in cc
opens false found ticket is = let bad : ◌≡◌ {A = Result OpenTicket RefusalNumber} (Ok ticket) (Err refusal.NoTicket) = is in cc

pub is_open_ticket : (s : Situation) (number : ℕ) (ticket : OpenTicket) → Ok ticket ≡ ticket_in s number → open_ticket s.open_tickets number ≡ Some ticket
is_open_ticket s number ticket is = opens (is_issued s number) (open_ticket s.open_tickets number) ticket is

-- ---- what is planned of a call that asks

pub unnegated : (b : Bool) → not b ≡ false → b ≡ true
unnegated b e = search rules

pub negated : (b : Bool) → not b ≡ true → b ≡ false
negated b e = search rules

abbrev permission_at : Situation → ℕ → Permission
permission_at s moment = permission_in s.standing.state s.config s.standing (length s.notes) (permissions_held s.standing.period s.open_tickets) moment

pub not_permitted : (s : Situation) (moment : ℕ) (p : Permission) (plan : Plan) → p ≡ permission_at s moment → p.given ≡ false → plan ≡ refused_plan p.standing refusal.CallNotPermitted
    → plan ≡ planned s.config moment acquires (acquired s moment)
not_permitted s moment p plan is given e = search rules

pub no_place : (s : Situation) (moment : ℕ) (p : Permission) (plan : Plan) → p ≡ permission_at s moment → p.given ≡ true → nat_le s.config.max_concurrent_calls (length s.open_tickets) ≡ true → plan ≡ refused_plan p.standing refusal.BulkheadFull
    → plan ≡ planned s.config moment acquires (acquired s moment)
no_place s moment p plan is given full e = search rules

pub call_permitted : (s : Situation) (moment : ℕ) (p : Permission) (number version : ℕ) (plan : Plan) → p ≡ permission_at s moment → p.given ≡ true → nat_le s.config.max_concurrent_calls (length s.open_tickets) ≡ false
    → number ≡ s.next_ticket → version ≡ current_version s → plan ≡ permitted_plan p.standing (record { number = number; version = version; period = p.standing.period; moment = moment })
    → plan ≡ planned s.config moment acquires (acquired s moment)
call_permitted s moment p number version plan is given free n v e = search rules

-- ---- what is planned of a verdict

pub verdict_recorded : (s : Situation) (moment : ℕ) (ticket : OpenTicket) (work : JudgedData) (note : Note) (next : Standing) (plan : Plan) → fate_of s.standing ticket.period work.verdict ≡ fate.Recorded
    → note ≡ note_of s.config moment work.verdict work.outcome → next ≡ after_notes s.config note.moment s.standing (s.notes ++ note ∷ []) → plan ≡ reported_plan ticket work.verdict work.steps fate.Recorded (Some note) next
    → plan ≡ planned s.config moment (finishes work ticket.number) (concluded s moment ticket work.outcome (judgement_of work))
verdict_recorded s moment ticket work note next plan recorded is after e = search rules

pub verdict_unrecorded : (s : Situation) (moment : ℕ) (ticket : OpenTicket) (work : JudgedData) (f : Fate) (plan : Plan) → f ≡ fate_of s.standing ticket.period work.verdict → f ≢ fate.Recorded
    → plan ≡ reported_plan ticket work.verdict work.steps f None s.standing
    → plan ≡ planned s.config moment (finishes work ticket.number) (concluded s moment ticket work.outcome (judgement_of work))
verdict_unrecorded s moment ticket work f plan is other e = search rules

-- ---- what is planned under a ticket

pub no_program : (s : Situation) (moment : ℕ) (work : JudgedData) (ticket : OpenTicket) (plan : Plan) → program_from s.first_version s.programs ticket.version ≡ None → plan ≡ refused_plan s.standing refusal.Stranger
    → plan ≡ planned s.config moment (finishes work ticket.number) (finished_under meant s moment work (Some ticket))
no_program s moment work ticket plan none e = e ∙ ap (λ (p : Option VerifiedProgram). planned s.config moment (finishes work ticket.number) (finished_by meant s moment ticket work p)) (sym none)

pub of_stranger : (s : Situation) (moment : ℕ) (work : JudgedData) (ticket : OpenTicket) (program : VerifiedProgram) (plan : Plan) → same_program work.program program ≡ false → plan ≡ refused_plan s.standing refusal.Stranger
    → plan ≡ planned s.config moment (finishes work ticket.number) (finished_by meant s moment ticket work (Some program))
of_stranger s moment work ticket program plan other e = search rules

-- ---- what is planned of a program

pub no_version_left : (s : Situation) (moment : ℕ) (program : VerifiedProgram) (count : ℕ) (plan : Plan) → count ≡ length s.programs - s.dropped → most_versions ≤ count → plan ≡ refused_plan s.standing refusal.VersionsFull
    → plan ≡ planned s.config moment (installs program) (installed s program)
no_version_left s moment program count plan is full e = search rules

pub version_given : (s : Situation) (moment : ℕ) (program : VerifiedProgram) (count version budget : ℕ) (layout : Layout) (standing : Standing) → count ≡ length s.programs - s.dropped → count < most_versions → version ≡ s.first_version + length s.programs → budget ≡ program.budget → layout ≡ program.layout → standing ≡ s.standing
    → planned s.config moment (installs program) (record { reply = reply.Installed version budget layout; next = standing }) ≡ planned s.config moment (installs program) (installed s program)
version_given s moment program count version budget layout standing is few v b l same = search rules

-- ---- what is planned of any event

pub full_plan : (s : Situation) (moment : ℕ) (event : EventData) (plan : Plan) → is_full s event ≡ true → plan ≡ refused_plan s.standing refusal.JournalFull → plan ≡ planned s.config moment event (decision s moment event)
unfolding decision_by
full_plan s moment event plan full e = search rules

pub decided_plan : (s : Situation) (moment : ℕ) (event : EventData) (plan : Plan) → is_full s event ≡ false → plan ≡ planned s.config moment event (decided meant (at_moment s moment) moment event) → plan ≡ planned s.config moment event (decision s moment event)
unfolding decision_by
decided_plan s moment event plan full e = search rules
