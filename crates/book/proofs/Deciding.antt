-- What the machine's replies can be, and where the breaker stands then.
use Rattle.std.proofs.Common.{◌≡◌, ℕ, suc, ◌+◌, ◌-◌, ◌≤◌, ◌<◌, ◌==◌, nat_le, nat_lt, ◌&&◌, not, Bool, true, false, if◌then◌else◌, List, [], ◌∷◌, length, Option, Some, None, arith, refl, sym, ◌∙◌, rules}
use Rattle.std.proofs.lemmas.Bool.{ltb-false, leb-false}
use Rattle.bpf_profile.specs.declared.layout.Layout.{Layout}
use Rattle.bpf_profile.specs.declared.machine.Verdict.{Verdict}
use Rattle.bpf_profile.specs.JudgedWork.{JudgedData}
use Rattle.refusals.specs.declared.RefusalNumber.{RefusalNumber}
use Rattle.refusals.specs.declared.RefusalNumber.TheVariants as refusal
use Rattle.bpf_profile.specs.Programs.{VerifiedProgram}
use Rattle.service_profile.specs.declared.decisions.Permission.{Permission}
use Rattle.service_profile.specs.declared.standings.Standing.{Standing}
use Rattle.service_profile.specs.declared.configuration.ConfigParts.{ConfigParts}
use Rattle.service_profile.specs.declared.decisions.Decision.{Decision}
use Rattle.service_profile.specs.declared.decisions.Judgement.{Judgement}
use Rattle.service_profile.specs.declared.tickets.OpenTicket.{OpenTicket}
use Rattle.service_profile.specs.declared.replies.Fate.{Fate}
use Rattle.service_profile.specs.declared.replies.Fate.TheVariants as fate
use Rattle.service_profile.specs.declared.replies.Reply.TheVariants as reply
use Rattle.service_profile.specs.declared.states.State.{State}
use Rattle.service_profile.specs.declared.states.State.TheVariants as state
use Rattle.service_profile.specs.declared.notes.Note.{Note}
use Rattle.service_profile.specs.Limits.{most_versions, most_entries}
use Rattle.service_profile.specs.Events.{EventData, acquires, finishes, releases, installs, moves, resets}
use Rattle.service_profile.specs.Machine.{Situation, refused, in_state, overstays, at_moment, permissions_held, permission_in, placed, acquired, current_version, open_ticket, is_open, is_issued, program_from, same_program, is_ignored, fate_of, next_by, concluded, finished_by, finished_under, finished, released_under, released, installed, decided, used, is_full, decision, is_entered_refusal, meant, decision_by}
use Rattle.service_profile.specs.Standings.{is_half_open, is_disabled}
use Rattle.service_profile.specs.Verdicts.{judgement}

-- ---- where the breaker stands: just as before, or some periods later

pub record IsNear (before after : Standing) (steps : ℕ) : Type 0 where
  pub least : before.period ≤ after.period
  pub most : after.period ≤ before.period + steps
  pub same : after.period ≡ before.period → after ≡ before

next_by_near : (f : Fate) (config : ConfigParts) (moment : ℕ) (standing : Standing) (notes : List Note) (note : Note) → IsNear standing (next_by f config moment standing notes note) 1
next_by_near f config moment standing notes note = search rules

abbrev DecidesNear : Standing → Decision → Type 0
DecidesNear standing d = IsNear standing d.next 1

finished_by_near : (s : Situation) (moment : ℕ) (ticket : OpenTicket) (work : JudgedData) (program : Option VerifiedProgram) → DecidesNear s.standing (finished_by meant s moment ticket work program)
finished_by_near s moment ticket work program = search (rules, next_by_near)

finished_under_near : (s : Situation) (moment : ℕ) (work : JudgedData) (ticket : Option OpenTicket) → DecidesNear s.standing (finished_under meant s moment work ticket)
finished_under_near s moment work ticket = search (rules, finished_by_near)

decided_near : (s : Situation) (moment : ℕ) (event : EventData) → DecidesNear s.standing (decided meant s moment event)
decided_near s moment event = search (rules, finished_under_near)

at_moment_near : (test : Bool) (s : Situation) (moment : ℕ) (event : EventData) → IsNear s.standing (decided meant (if test then in_state state.Open moment s else s) moment event).next 2
at_moment_near test s moment event = search (rules, decided_near)

full_near : (test : Bool) (s : Situation) (moment : ℕ) (event : EventData) → IsNear s.standing (if test then refused s.standing refusal.JournalFull else decided meant (at_moment s moment) moment event).next 2
full_near test s moment event = search (rules, at_moment_near)

pub decision_near : (s : Situation) (moment : ℕ) (event : EventData) → IsNear s.standing (decision s moment event).next 2
unfolding decision_by
decision_near s moment event = full_near (is_full s event) s moment event

-- ---- what the reply can be

-- a call that is permitted in a HALF_OPEN period that goes on has a permission left
abbrev pub HasPermission : Situation → Standing → Type 0
HasPermission s next = is_half_open next.state ≡ true → next.period ≡ s.standing.period
    → permissions_held s.standing.period s.open_tickets + length s.notes < s.config.permitted_number_of_calls_in_half_open_state

-- the ticket of a recorded verdict is of the period that goes on
abbrev pub IsPresent : Situation → Standing → ℕ → Fate → Type 0
IsPresent s next ticket f = f ≡ fate.Recorded → next.period ≡ s.standing.period → (t : OpenTicket) × (open_ticket s.open_tickets ticket ≡ Some t) × (t.period ≡ s.standing.period)

-- a recorded verdict isn't ignored
abbrev pub IsCounted : Fate → Verdict → Type 0
IsCounted f v = f ≡ fate.Recorded → is_ignored v ≡ false

-- the verdict is that of the program of the version with which the open ticket was issued
pub record IsByVersion (s : Situation) (work : JudgedData) (ticket : ℕ) (v : Verdict) (steps version : ℕ) : Type 0 where
  pub opened : OpenTicket
  pub found : open_ticket s.open_tickets ticket ≡ Some opened
  pub of_version : opened.version ≡ version
  pub program : VerifiedProgram
  pub held : program_from s.first_version s.programs version ≡ Some program
  pub verdict_is : (judgement program work.outcome).verdict ≡ v
  pub steps_are : (judgement program work.outcome).steps ≡ steps

pub data Shape (s : Situation) (event : EventData) (d : Decision) : Type 0 where
  refuses : (number : RefusalNumber) → d.reply ≡ reply.Refused number → (is_entered_refusal number ≡ true → used s ≤ (most_entries - 1)) → Shape s event d
  permits : (version : ℕ) (st : State) → event ≡ acquires → d.reply ≡ reply.Permitted s.next_ticket version st → version ≡ current_version s → used s ≤ (most_entries - 2) → length s.open_tickets < s.config.max_concurrent_calls → HasPermission s d.next → Shape s event d
  concludes : (work : JudgedData) (ticket : ℕ) (f : Fate) (v : Verdict) (steps version : ℕ) (st : State) → event ≡ finishes work ticket → d.reply ≡ reply.Finished f v steps version st → is_open s.open_tickets ticket ≡ true → IsPresent s d.next ticket f → IsCounted f v → IsByVersion s work ticket v steps version → Shape s event d
  lets_go : (ticket : ℕ) (st : State) → event ≡ releases ticket → d.reply ≡ reply.Released st → is_open s.open_tickets ticket ≡ true → Shape s event d
  takes_in : (program : VerifiedProgram) (version budget : ℕ) (layout : Layout) → event ≡ installs program → d.reply ≡ reply.Installed version budget layout → length s.programs - s.dropped < most_versions → used s ≤ (most_entries - 1) → Shape s event d
  turns : (st : State) (period : ℕ) → d.reply ≡ reply.Moved st period → used s ≤ (most_entries - 1) → Shape s event d

either_shape : (test : Bool) (s : Situation) (event : EventData) (a b : Decision) → (test ≡ true → Shape s event a) → (test ≡ false → Shape s event b) → Shape s event (if test then a else b)
either_shape true s event a b p q = p refl
either_shape false s event a b p q = q refl

-- an entered refusal where the journal has room
refused_shape : (s : Situation) (event : EventData) (standing : Standing) (number : RefusalNumber) → used s ≤ (most_entries - 1) → Shape s event (refused standing number)
refused_shape s event standing number room = refuses number refl (λ e. room)

permission_given : (s : Situation) (moment : ℕ) (st : State) → s.standing.state ≡ st → (permission_in st s.config s.standing (length s.notes) (permissions_held s.standing.period s.open_tickets) moment).given ≡ true
    → HasPermission s (permission_in st s.config s.standing (length s.notes) (permissions_held s.standing.period s.open_tickets) moment).standing
permission_given s moment st e g = search rules

acquired_shape : (s : Situation) (moment : ℕ) → used s ≤ (most_entries - 2) → Shape s acquires (acquired s moment)
acquired_shape s moment room =
    let permission : Permission = permission_in s.standing.state s.config s.standing (length s.notes) (permissions_held s.standing.period s.open_tickets) moment in
    either_shape permission.given s acquires (placed s permission.standing) (refused permission.standing refusal.CallNotPermitted)
    (λ g. either_shape (nat_le s.config.max_concurrent_calls (length s.open_tickets)) s acquires
    (refused permission.standing refusal.BulkheadFull)
    (record { reply = reply.Permitted s.next_ticket (current_version s) permission.standing.state; next = permission.standing })
    (λ f. refused_shape s acquires permission.standing refusal.BulkheadFull (omega arith))
    (λ f. permits (current_version s) permission.standing.state refl refl refl room (leb-false s.config.max_concurrent_calls (length s.open_tickets) f) (permission_given s moment s.standing.state refl g)))
    (λ g. refused_shape s acquires permission.standing refusal.CallNotPermitted (omega arith))

-- a ticket that is found is open
pub found_open : (tickets : List OpenTicket) (number : ℕ) (ticket : OpenTicket) → open_ticket tickets number ≡ Some ticket → is_open tickets number ≡ true
found_open [] number ticket e = let bad : ◌≡◌ {A = Option OpenTicket} None (Some ticket) = e in cc
found_open (t ∷ tickets) number ticket e = search (rules, found_open tickets number ticket)

-- a ticket that is not found is not open
pub lost_closed : (tickets : List OpenTicket) (number : ℕ) → open_ticket tickets number ≡ None → is_open tickets number ≡ false
lost_closed [] number e = refl
lost_closed (t ∷ tickets) number e = search (rules, lost_closed tickets number)

both_false : (o b : Bool) → o ≡ false → (b && not o) ≡ false → b ≡ false
both_false o b h e = search rules

-- the room that an event has whose ticket isn't open, where the journal isn't full
closed_room : (s : Situation) (ticket : ℕ) → (nat_lt (most_entries - 1) (used s) && not (is_open s.open_tickets ticket)) ≡ false → is_open s.open_tickets ticket ≡ false → used s ≤ (most_entries - 1)
closed_room s ticket full closed = ltb-false (most_entries - 1) (used s) (both_false (is_open s.open_tickets ticket) (nat_lt (most_entries - 1) (used s)) closed full)

-- a refusal that isn't entered
unentered_shape : (s : Situation) (event : EventData) (standing : Standing) (number : RefusalNumber) → is_entered_refusal number ≡ false → Shape s event (refused standing number)
unentered_shape s event standing number h = refuses number refl (λ e. let bad : ◌≡◌ {A = Bool} true false = sym e ∙ h in cc)

abbrev pub OpenAreIssued : Situation → Type 0
OpenAreIssued s = (number : ℕ) → is_open s.open_tickets number ≡ true → is_issued s number ≡ true

-- a number that wasn't issued isn't open
unissued_closed : (s : Situation) (number : ℕ) → OpenAreIssued s → is_issued s number ≡ false → is_open s.open_tickets number ≡ false
unissued_closed s number issued none = search rules

recorded_fate : (standing : Standing) (period : ℕ) (v : Verdict) (same : Bool) → (period == standing.period) ≡ same → fate_of standing period v ≡ fate.Recorded → period ≡ standing.period
recorded_fate standing period v same e r = search rules

unignored : (a b : Bool) (v : Verdict) → (if not a then fate.Stale else (if b then fate.Off else (if is_ignored v then fate.Ignored else fate.Recorded))) ≡ fate.Recorded → is_ignored v ≡ false
unignored a b v e = search rules

finished_by_shape : (s : Situation) (moment : ℕ) (t : OpenTicket) (work : JudgedData) (ticket : ℕ) (program : Option VerifiedProgram) → program_from s.first_version s.programs t.version ≡ program → is_open s.open_tickets ticket ≡ true → open_ticket s.open_tickets ticket ≡ Some t → Shape s (finishes work ticket) (finished_by meant s moment t work program)
finished_by_shape s moment t work ticket None held there found = unentered_shape s (finishes work ticket) s.standing refusal.Stranger refl
finished_by_shape s moment t work ticket (Some program) held there found =
    let j : Judgement = judgement program work.outcome in
    let d : Decision = concluded s moment t work.outcome j in
    either_shape (same_program work.program program) s (finishes work ticket) d (refused s.standing refusal.Stranger)
    (λ e. concludes work ticket (fate_of s.standing t.period j.verdict) j.verdict j.steps t.version d.next.state refl refl there
    (λ r same. (t, found, recorded_fate s.standing t.period j.verdict (t.period == s.standing.period) refl r))
    (λ r. unignored (t.period == s.standing.period) (is_disabled s.standing.state) j.verdict r)
    (record { opened = t; found = found; of_version = refl; program = program; held = held; verdict_is = refl; steps_are = refl }))
    (λ e. unentered_shape s (finishes work ticket) s.standing refusal.Stranger refl)

finished_under_shape : (s : Situation) (moment : ℕ) (work : JudgedData) (ticket : ℕ) (found : Option OpenTicket)
    → (nat_lt (most_entries - 1) (used s) && not (is_open s.open_tickets ticket)) ≡ false → open_ticket s.open_tickets ticket ≡ found → Shape s (finishes work ticket) (finished_under meant s moment work found)
finished_under_shape s moment work ticket None full e = refused_shape s (finishes work ticket) s.standing refusal.TicketSpent (closed_room s ticket full (lost_closed s.open_tickets ticket e))
finished_under_shape s moment work ticket (Some t) full e = finished_by_shape s moment t work ticket (program_from s.first_version s.programs t.version) refl (found_open s.open_tickets ticket t e) e

finished_shape : (s : Situation) (moment : ℕ) (work : JudgedData) (ticket : ℕ) → (nat_lt (most_entries - 1) (used s) && not (is_open s.open_tickets ticket)) ≡ false → OpenAreIssued s → Shape s (finishes work ticket) (finished meant s moment work ticket)
finished_shape s moment work ticket full issued = search (rules, either_shape, finished_under_shape, refused_shape, closed_room, unissued_closed)

released_under_shape : (s : Situation) (ticket : ℕ) (found : Option OpenTicket)
    → (nat_lt (most_entries - 1) (used s) && not (is_open s.open_tickets ticket)) ≡ false → open_ticket s.open_tickets ticket ≡ found → Shape s (releases ticket) (released_under s found)
released_under_shape s ticket None full e = refused_shape s (releases ticket) s.standing refusal.TicketSpent (closed_room s ticket full (lost_closed s.open_tickets ticket e))
released_under_shape s ticket (Some t) full e = lets_go ticket s.standing.state refl refl (found_open s.open_tickets ticket t e)

released_shape : (s : Situation) (ticket : ℕ) → (nat_lt (most_entries - 1) (used s) && not (is_open s.open_tickets ticket)) ≡ false → OpenAreIssued s → Shape s (releases ticket) (released s ticket)
released_shape s ticket full issued =
    either_shape (is_issued s ticket) s (releases ticket) (released_under s (open_ticket s.open_tickets ticket)) (refused s.standing refusal.NoTicket)
    (λ e. released_under_shape s ticket (open_ticket s.open_tickets ticket) full refl)
    (λ e. refused_shape s (releases ticket) s.standing refusal.NoTicket (closed_room s ticket full (unissued_closed s ticket issued e)))

installed_shape : (s : Situation) (program : VerifiedProgram) → used s ≤ (most_entries - 1) → Shape s (installs program) (installed s program)
installed_shape s program room =
    either_shape (nat_le most_versions (length s.programs - s.dropped)) s (installs program) (refused s.standing refusal.VersionsFull)
    (record { reply = reply.Installed (s.first_version + length s.programs) program.budget program.layout; next = s.standing })
    (λ e. unentered_shape s (installs program) s.standing refusal.VersionsFull refl)
    (λ e. takes_in program (s.first_version + length s.programs) program.budget program.layout refl refl (leb-false most_versions (length s.programs - s.dropped) e) room)

decided_shape : (s : Situation) (moment : ℕ) (event : EventData) → is_full s event ≡ false → OpenAreIssued s → Shape s event (decided meant s moment event)
decided_shape s moment acquires full issued = acquired_shape s moment (ltb-false (most_entries - 2) (used s) full)
decided_shape s moment (finishes work ticket) full issued = finished_shape s moment work ticket full issued
decided_shape s moment (releases ticket) full issued = released_shape s ticket full issued
decided_shape s moment (installs program) full issued = installed_shape s program (ltb-false (most_entries - 1) (used s) full)
decided_shape s moment (moves to) full issued = turns to (suc s.standing.period) refl (ltb-false (most_entries - 1) (used s) full)
decided_shape s moment resets full issued = turns state.Closed (suc s.standing.period) refl (ltb-false (most_entries - 1) (used s) full)

-- ---- where a stay in HALF_OPEN has lasted too long, the event is taken in OPEN

-- whether the journal is full doesn't depend on where the breaker stands
full_in_open : (s : Situation) (moment : ℕ) (event : EventData) → is_full s event ≡ false → is_full (in_state state.Open moment s) event ≡ false
full_in_open s moment event full = search rules

-- an event that is taken after a transition has the shape that it has in the situation before
after_expiry : (s : Situation) (moment : ℕ) (event : EventData) (d : Decision) → IsNear (in_state state.Open moment s).standing d.next 1 → Shape (in_state state.Open moment s) event d → Shape s event d
after_expiry s moment event d near (refuses number e room) = refuses number e room
after_expiry s moment event d near (permits version st e r current room free given) = permits version st e r current room free (λ h same. absurd (omega (arith, same, near.least)))
after_expiry s moment event d near (concludes work ticket f v steps version st e r there present counted version_is) =
    concludes work ticket f v steps version st e r there (λ g same. absurd (omega (arith, same, near.least))) counted
    (record { opened = version_is.opened; found = version_is.found; of_version = version_is.of_version; program = version_is.program; held = version_is.held; verdict_is = version_is.verdict_is; steps_are = version_is.steps_are })
after_expiry s moment event d near (lets_go ticket st e r there) = lets_go ticket st e r there
after_expiry s moment event d near (takes_in program version budget layout e r less room) = takes_in program version budget layout e r less room
after_expiry s moment event d near (turns st period e room) = turns st period e room

by_stay : (test : Bool) (s : Situation) (moment : ℕ) (event : EventData) → is_full s event ≡ false → OpenAreIssued s → Shape s event (decided meant (if test then in_state state.Open moment s else s) moment event)
by_stay true s moment event full issued =
    after_expiry s moment event (decided meant (in_state state.Open moment s) moment event) (decided_near (in_state state.Open moment s) moment event)
    (decided_shape (in_state state.Open moment s) moment event (full_in_open s moment event full) issued)
by_stay false s moment event full issued = decided_shape s moment event full issued

pub decision_shape : (s : Situation) (moment : ℕ) (event : EventData) → OpenAreIssued s → Shape s event (decision s moment event)
unfolding decision_by
decision_shape s moment event issued =
    either_shape (is_full s event) s event (refused s.standing refusal.JournalFull) (decided meant (at_moment s moment) moment event)
    (λ e. unentered_shape s event s.standing refusal.JournalFull refl)
    (λ e. by_stay (overstays s moment) s moment event e issued)
