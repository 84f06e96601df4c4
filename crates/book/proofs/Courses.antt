-- The course of a list of steps: there is one in which nothing is refused for want of memory, and one alone for each choice of steps that are.
use Rattle.std.proofs.Common.{◌≡◌, ℕ, Bool, true, false, if◌then◌else◌, List, [], ◌∷◌, map, slice_get, Option, Some, None, Result, Ok, Err, refl, ap, sym, ◌∙◌, subst, rules}
use Rattle.bpf_profile.specs.JudgedWork.{JudgedData}
use Rattle.bpf_profile.specs.Programs.{VerifiedProgram}
use Rattle.refusals.specs.declared.RefusalNumber.{RefusalNumber}
use Rattle.refusals.specs.declared.RefusalNumber.TheVariants as refusal
use Rattle.service_profile.specs.declared.decisions.Decision.{Decision}
use Rattle.service_profile.specs.declared.replies.Reply.{Reply}
use Rattle.service_profile.specs.declared.replies.Reply.TheVariants as reply
use Rattle.service_profile.specs.declared.tickets.OpenTicket.{OpenTicket}
use Rattle.service_profile.specs.Answers.{answer_by, with_line, IsAppliedBy, as_documented, looked_under, looked, IsLooked, looks, reading, page_from, IsPage, copies, is_worn_out, is_some_open, reopened, handed_out, after_cut, cut, IsCut, cuts, lines_up_to, roll, after_roll, IsRolled, rolls}
use Rattle.service_profile.specs.Events.{EventData, finishes, EntryData, line, Opening, History}
use Rattle.service_profile.specs.Histories.{past_of, situation_of, raised, next_line}
use Rattle.service_profile.specs.Machine.{Situation, Judging, is_entered, is_issued, open_ticket}
use Rattle.service_profile.specs.Calls.{CallData, CallAnswer}
use Rattle.service_profile.specs.Calls as call
use Rattle.book.specs.Interleavings.{World, Step, calls, judge, finish, Given, answered, nothing, with_answer, with_judged, IsAnswered, IsFinish, IsTaken, Act, IsCourse}
use Rattle.book.specs.Memory.{lacks_memory, HaveMemory}
use Rattle.book.proofs.Roomy.{decision_has_memory}

-- ---- one step

pub record Turn : Type 0 where
  pub given : Given
  pub world : World

-- what was answered, and the history after it
abbrev giving : World → ℕ → CallAnswer → History → Turn
giving w actor given history = record { given = answered given; world = record { history = history; hands = with_answer w.hands actor given } }

abbrev entering : World → ℕ → ℕ → EventData → Decision → Turn
entering w actor moment event d =
    giving w actor (call.replies d.reply) (if is_entered d.reply then with_line w.history (line (next_line (past_of w.history)) actor event (raised (past_of w.history) moment) d.reply) else w.history)

abbrev calling : Judging → World → ℕ → CallData → Turn
calling judging w actor (call.applies moment event) = entering w actor moment event (answer_by judging w.history moment event)
calling judging w actor (call.looks ticket) = giving w actor (call.finds (looked (situation_of (past_of w.history)) ticket)) w.history
calling judging w actor (call.reads moment) = giving w actor (call.shows (reading (past_of w.history) moment)) w.history
calling judging w actor (call.pages from) = giving w actor (call.hands (Ok (page_from w.history from))) w.history
calling judging w actor call.cuts = giving w actor (call.hands (handed_out w.history (cut (past_of w.history)))) (after_cut w.history (cut (past_of w.history)))
calling judging w actor (call.rolls last) = giving w actor (call.hands (roll w.history last)) (after_roll w.history last (roll w.history last))

abbrev finishing : Judging → World → ℕ → ℕ → ℕ → Option JudgedData → Turn
finishing judging w actor moment ticket None = record { given = nothing; world = w }
finishing judging w actor moment ticket (Some work) = calling judging w actor (call.applies moment (finishes work ticket))

abbrev pub turn : Judging → World → ℕ → Step → Turn
turn judging w actor (calls c) = calling judging w actor c
turn judging w actor (judge place outcome) = record { given = nothing; world = record { history = w.history; hands = with_judged w.hands actor outcome (slice_get (w.hands actor).programs place) } }
turn judging w actor (finish moment place ticket) = finishing judging w actor moment ticket (slice_get (w.hands actor).works place)

-- ---- it is one that the clauses allow

abbrev Allows : Judging → World → ℕ → CallData → Type 0
Allows judging w actor c = IsTaken judging w actor (calls c) (calling judging w actor c).given (calling judging w actor c).world

call_taken : (judging : Judging) (w : World) (actor : ℕ) (c : CallData) → Allows judging w actor c
call_taken judging w actor (call.applies moment event) = (as_documented refl refl, refl)
call_taken judging w actor (call.looks ticket) = ((looks refl, refl), refl)
call_taken judging w actor (call.reads moment) = ((refl, refl), refl)
call_taken judging w actor (call.pages from) = ((copies refl, refl), refl)
call_taken judging w actor call.cuts = (cuts refl refl, refl)
call_taken judging w actor (call.rolls last) = (rolls refl refl, refl)

finish_taken : (judging : Judging) (w : World) (actor moment ticket : ℕ) (o : Option JudgedData) → IsFinish judging w actor moment ticket o (finishing judging w actor moment ticket o).given (finishing judging w actor moment ticket o).world
finish_taken judging w actor moment ticket None = refl
finish_taken judging w actor moment ticket (Some work) = call_taken judging w actor (call.applies moment (finishes work ticket))

turn_taken : (judging : Judging) (w : World) (actor : ℕ) (step : Step) → IsTaken judging w actor step (turn judging w actor step).given (turn judging w actor step).world
turn_taken judging w actor (calls c) = call_taken judging w actor c
turn_taken judging w actor (judge place outcome) = refl
turn_taken judging w actor (finish moment place ticket) = finish_taken judging w actor moment ticket (slice_get (w.hands actor).works place)

-- ---- it isn't refused for want of memory

looked_has_memory : (test : Bool) (s : Situation) (o : Option OpenTicket) → lacks_memory (answered (call.finds (if test then looked_under s o else Err refusal.NoTicket))) ≡ false
looked_has_memory test s o = search rules

cut_has_memory : (worn some : Bool) (history : History) (opening : Opening) → lacks_memory (answered (call.hands (handed_out history (if worn then Err refusal.JournalFull else (if some then Err refusal.TicketsOpen else Ok opening))))) ≡ false
cut_has_memory worn some history opening = search rules

roll_has_memory : (worn : Bool) (lines : List EntryData) → lacks_memory (answered (call.hands (if worn then Err refusal.JournalFull else Ok lines))) ≡ false
roll_has_memory worn lines = search rules

call_has_memory : (judging : Judging) (w : World) (actor : ℕ) (c : CallData) → lacks_memory (calling judging w actor c).given ≡ false
call_has_memory judging w actor (call.applies moment event) = decision_has_memory judging (situation_of (past_of w.history)) (raised (past_of w.history) moment) event
call_has_memory judging w actor (call.looks ticket) =
    let s : Situation = situation_of (past_of w.history) in
    looked_has_memory (is_issued s ticket) s (open_ticket s.open_tickets ticket)
call_has_memory judging w actor (call.reads moment) = refl
call_has_memory judging w actor (call.pages from) = refl
call_has_memory judging w actor call.cuts = cut_has_memory (is_worn_out (past_of w.history)) (is_some_open (situation_of (past_of w.history)).open_tickets) w.history (reopened (past_of w.history))
call_has_memory judging w actor (call.rolls last) = roll_has_memory (is_worn_out (past_of w.history)) (lines_up_to w.history last)

finish_has_memory : (judging : Judging) (w : World) (actor moment ticket : ℕ) (o : Option JudgedData) → lacks_memory (finishing judging w actor moment ticket o).given ≡ false
finish_has_memory judging w actor moment ticket None = refl
finish_has_memory judging w actor moment ticket (Some work) = call_has_memory judging w actor (call.applies moment (finishes work ticket))

turn_has_memory : (judging : Judging) (w : World) (actor : ℕ) (step : Step) → lacks_memory (turn judging w actor step).given ≡ false
turn_has_memory judging w actor (calls c) = call_has_memory judging w actor c
turn_has_memory judging w actor (judge place outcome) = refl
turn_has_memory judging w actor (finish moment place ticket) = finish_has_memory judging w actor moment ticket (slice_get (w.hands actor).works place)

-- ---- it is the only one that isn't

abbrev IsOnly : Given → World → Turn → Type 0
IsOnly given after t = (given ≡ t.given) × (after ≡ t.world)

given_so : (w : World) (actor : ℕ) (given wanted : CallAnswer) (history : History) (after : World) → given ≡ wanted → after.history ≡ history → after.hands ≡ with_answer w.hands actor given → IsOnly (answered given) after (giving w actor wanted history)
given_so w actor given wanted history after same leads hands = search rules

applied_only : (judging : Judging) (w : World) (actor moment : ℕ) (event : EventData) (r : Reply) (after : World) → IsAppliedBy judging w.history actor moment event r after.history → after.hands ≡ w.hands → lacks_memory (answered (call.replies r)) ≡ false
    → IsOnly (answered (call.replies r)) after (entering w actor moment event (answer_by judging w.history moment event))
applied_only judging w actor moment event r after a hands enough = search rules

looked_only : (w : World) (actor ticket : ℕ) (result : Result VerifiedProgram RefusalNumber) (after : World) → IsLooked w.history ticket result → after.history ≡ w.history → after.hands ≡ with_answer w.hands actor (call.finds result) → lacks_memory (answered (call.finds result)) ≡ false
    → IsOnly (answered (call.finds result)) after (giving w actor (call.finds (looked (situation_of (past_of w.history)) ticket)) w.history)
looked_only w actor ticket result after a stays hands enough = search (rules, given_so)

paged_only : (w : World) (actor from : ℕ) (result : Result (List EntryData) RefusalNumber) (after : World) → IsPage w.history from result → after.history ≡ w.history → after.hands ≡ w.hands → lacks_memory (answered (call.hands result)) ≡ false
    → IsOnly (answered (call.hands result)) after (giving w actor (call.hands (Ok (page_from w.history from))) w.history)
paged_only w actor from result after a stays hands enough = search (rules, given_so)

cut_only : (w : World) (actor : ℕ) (result : Result (List EntryData) RefusalNumber) (after : World) → IsCut w.history result after.history → after.hands ≡ w.hands → lacks_memory (answered (call.hands result)) ≡ false
    → IsOnly (answered (call.hands result)) after (giving w actor (call.hands (handed_out w.history (cut (past_of w.history)))) (after_cut w.history (cut (past_of w.history))))
cut_only w actor result after a hands enough = search rules

roll_only : (w : World) (actor last : ℕ) (result : Result (List EntryData) RefusalNumber) (after : World) → IsRolled w.history last result after.history → after.hands ≡ w.hands → lacks_memory (answered (call.hands result)) ≡ false
    → IsOnly (answered (call.hands result)) after (giving w actor (call.hands (roll w.history last)) (after_roll w.history last (roll w.history last)))
roll_only w actor last result after a hands enough = search rules

call_only : (judging : Judging) (w : World) (actor : ℕ) (c : CallData) (given : CallAnswer) (after : World) → IsAnswered judging w actor c given after → lacks_memory (answered given) ≡ false → IsOnly (answered given) after (calling judging w actor c)
call_only judging w actor (call.applies moment event) (call.replies r) after is enough = applied_only judging w actor moment event r after is.0 is.1 enough
call_only judging w actor (call.looks ticket) (call.finds result) after is enough = looked_only w actor ticket result after is.0.0 is.0.1 is.1 enough
call_only judging w actor (call.reads moment) (call.shows now) after is enough = given_so w actor (call.shows now) (call.shows (reading (past_of w.history) moment)) w.history after (ap call.shows is.0.0) is.0.1 is.1
call_only judging w actor (call.pages from) (call.hands lines) after is enough = paged_only w actor from lines after is.0.0 is.0.1 is.1 enough
call_only judging w actor call.cuts (call.hands lines) after is enough = cut_only w actor lines after is.0 is.1 enough
call_only judging w actor (call.rolls last) (call.hands lines) after is enough = roll_only w actor last lines after is.0 is.1 enough
call_only judging w actor c given after is enough = absurd is.0

finish_only : (judging : Judging) (w : World) (actor moment ticket : ℕ) (o : Option JudgedData) (given : Given) (after : World) → IsFinish judging w actor moment ticket o given after → lacks_memory given ≡ false
    → IsOnly given after (finishing judging w actor moment ticket o)
finish_only judging w actor moment ticket None nothing after is enough = (refl, is)
finish_only judging w actor moment ticket (Some work) (answered given) after is enough = call_only judging w actor (call.applies moment (finishes work ticket)) given after is enough
finish_only judging w actor moment ticket o given after is enough = absurd is

turn_only : (judging : Judging) (w : World) (actor : ℕ) (step : Step) (given : Given) (after : World) → IsTaken judging w actor step given after → lacks_memory given ≡ false → IsOnly given after (turn judging w actor step)
turn_only judging w actor (calls c) (answered given) after is enough = call_only judging w actor c given after is enough
turn_only judging w actor (judge place outcome) nothing after is enough = (refl, is)
turn_only judging w actor (finish moment place ticket) given after is enough = finish_only judging w actor moment ticket (slice_get (w.hands actor).works place) given after is enough
turn_only judging w actor step given after is enough = absurd is

-- ---- where a step is refused for want of memory, it gives nothing else, and the world stays

abbrev lost : CallData → CallAnswer
lost (call.looks ticket) = call.finds (Err refusal.ServiceOutOfMemory)
lost (call.pages from) = call.hands (Err refusal.ServiceOutOfMemory)
lost call.cuts = call.hands (Err refusal.ServiceOutOfMemory)
lost (call.rolls last) = call.hands (Err refusal.ServiceOutOfMemory)
lost c = call.replies (reply.Refused refusal.ServiceOutOfMemory)

abbrev losing : World → Step → Turn
losing w (calls c) = record { given = answered (lost c); world = w }
losing w step = record { given = answered (call.replies (reply.Refused refusal.ServiceOutOfMemory)); world = w }

having : {A : Type 0} (given other : Given) → given ≡ other → lacks_memory other ≡ false → lacks_memory given ≡ true → A
having given other same enough lacks = let bad : ◌≡◌ {A = Bool} true false = sym lacks ∙ ap lacks_memory same ∙ enough in cc

applied_lost : (judging : Judging) (w : World) (actor moment : ℕ) (event : EventData) (r : Reply) (after : World) → IsAppliedBy judging w.history actor moment event r after.history → after.hands ≡ w.hands → lacks_memory (answered (call.replies r)) ≡ true
    → IsOnly (answered (call.replies r)) after (record { given = answered (call.replies (reply.Refused refusal.ServiceOutOfMemory)); world = w })
applied_lost judging w actor moment event r after a hands lacks = search rules

looked_lost : (w : World) (actor ticket : ℕ) (result : Result VerifiedProgram RefusalNumber) (after : World) → IsLooked w.history ticket result → after.history ≡ w.history → after.hands ≡ with_answer w.hands actor (call.finds result) → lacks_memory (answered (call.finds result)) ≡ true
    → IsOnly (answered (call.finds result)) after (record { given = answered (call.finds (Err refusal.ServiceOutOfMemory)); world = w })
looked_lost w actor ticket result after a stays hands lacks = search rules

paged_lost : (w : World) (from : ℕ) (result : Result (List EntryData) RefusalNumber) (after : World) → IsPage w.history from result → after.history ≡ w.history → after.hands ≡ w.hands → lacks_memory (answered (call.hands result)) ≡ true
    → IsOnly (answered (call.hands result)) after (record { given = answered (call.hands (Err refusal.ServiceOutOfMemory)); world = w })
paged_lost w from result after a stays hands lacks = search rules

cut_lost : (w : World) (result : Result (List EntryData) RefusalNumber) (after : World) → IsCut w.history result after.history → after.hands ≡ w.hands → lacks_memory (answered (call.hands result)) ≡ true
    → IsOnly (answered (call.hands result)) after (record { given = answered (call.hands (Err refusal.ServiceOutOfMemory)); world = w })
cut_lost w result after a hands lacks = search (rules, cut_has_memory)

roll_lost : (w : World) (last : ℕ) (result : Result (List EntryData) RefusalNumber) (after : World) → IsRolled w.history last result after.history → after.hands ≡ w.hands → lacks_memory (answered (call.hands result)) ≡ true
    → IsOnly (answered (call.hands result)) after (record { given = answered (call.hands (Err refusal.ServiceOutOfMemory)); world = w })
roll_lost w last result after a hands lacks = search (rules, roll_has_memory)

call_lost : (judging : Judging) (w : World) (actor : ℕ) (c : CallData) (given : CallAnswer) (after : World) → IsAnswered judging w actor c given after → lacks_memory (answered given) ≡ true → IsOnly (answered given) after (losing w (calls c))
call_lost judging w actor (call.applies moment event) (call.replies r) after is lacks = applied_lost judging w actor moment event r after is.0 is.1 lacks
call_lost judging w actor (call.looks ticket) (call.finds result) after is lacks = looked_lost w actor ticket result after is.0.0 is.0.1 is.1 lacks
call_lost judging w actor (call.reads moment) (call.shows now) after is lacks = having (answered (call.shows now)) (answered (call.shows now)) refl refl lacks
call_lost judging w actor (call.pages from) (call.hands lines) after is lacks = paged_lost w from lines after is.0.0 is.0.1 is.1 lacks
call_lost judging w actor call.cuts (call.hands lines) after is lacks = cut_lost w lines after is.0 is.1 lacks
call_lost judging w actor (call.rolls last) (call.hands lines) after is lacks = roll_lost w last lines after is.0 is.1 lacks
call_lost judging w actor c given after is lacks = absurd is.0

finish_lost : (judging : Judging) (w : World) (actor moment ticket : ℕ) (o : Option JudgedData) (given : Given) (after : World) → IsFinish judging w actor moment ticket o given after → lacks_memory given ≡ true
    → IsOnly given after (record { given = answered (call.replies (reply.Refused refusal.ServiceOutOfMemory)); world = w })
finish_lost judging w actor moment ticket None nothing after is lacks = having nothing nothing refl refl lacks
finish_lost judging w actor moment ticket (Some work) (answered given) after is lacks = call_lost judging w actor (call.applies moment (finishes work ticket)) given after is lacks
finish_lost judging w actor moment ticket o given after is lacks = absurd is

turn_lost : (judging : Judging) (w : World) (actor : ℕ) (step : Step) (given : Given) (after : World) → IsTaken judging w actor step given after → lacks_memory given ≡ true → IsOnly given after (losing w step)
turn_lost judging w actor (calls c) (answered given) after is lacks = call_lost judging w actor c given after is lacks
turn_lost judging w actor (judge place outcome) nothing after is lacks = having nothing nothing refl refl lacks
turn_lost judging w actor (finish moment place ticket) given after is lacks = finish_lost judging w actor moment ticket (slice_get (w.hands actor).works place) given after is lacks
turn_lost judging w actor step given after is lacks = absurd is

-- so a step that is refused alike gives the same
turn_settled : (judging : Judging) (w : World) (actor : ℕ) (step : Step) (given other : Given) (after end : World) → IsTaken judging w actor step given after → IsTaken judging w actor step other end → lacks_memory given ≡ lacks_memory other
    → (given ≡ other) × (after ≡ end)
turn_settled judging w actor step given other after end is does alike = by_memory (lacks_memory given) refl
  where
    by_memory : (lacks : Bool) → lacks_memory given ≡ lacks → (given ≡ other) × (after ≡ end)
    by_memory false enough =
        let here = turn_only judging w actor step given after is enough in
        let there = turn_only judging w actor step other end does (sym alike ∙ enough) in
        (here.0 ∙ sym there.0, here.1 ∙ sym there.1)
    by_memory true lacks =
        let here = turn_lost judging w actor step given after is lacks in
        let there = turn_lost judging w actor step other end does (sym alike ∙ lacks) in
        (here.0 ∙ sym there.0, here.1 ∙ sym there.1)

-- ---- lists of steps

pub record Course : Type 0 where
  pub given : List Given
  pub world : World

abbrev preceded : Given → Course → Course
preceded given rest = record { given = given ∷ rest.given; world = rest.world }

unfoldable pub course : Judging → World → List Act → Course
course judging w [] = record { given = []; world = w }
course judging w (act ∷ acts) = preceded (turn judging w act.actor act.step).given (course judging (turn judging w act.actor act.step).world acts)

pub course_taken : (judging : Judging) (w : World) (acts : List Act) → IsCourse judging w acts (course judging w acts).given (course judging w acts).world
unfolding course
course_taken judging w [] = refl
course_taken judging w (act ∷ acts) =
    ((turn judging w act.actor act.step).world, turn_taken judging w act.actor act.step, course_taken judging (turn judging w act.actor act.step).world acts)

pub course_has_memory : (judging : Judging) (w : World) (acts : List Act) → HaveMemory (course judging w acts).given
unfolding course
course_has_memory judging w [] = tt
course_has_memory judging w (act ∷ acts) = (turn_has_memory judging w act.actor act.step, course_has_memory judging (turn judging w act.actor act.step).world acts)

pub course_only : (judging : Judging) (w : World) (acts : List Act) (given : List Given) (after : World) → IsCourse judging w acts given after → HaveMemory given
    → (given ≡ (course judging w acts).given) × (after ≡ (course judging w acts).world)
unfolding course
course_only judging w [] [] after is enough = (refl, is)
course_only judging w (act ∷ acts) (one ∷ more) after is enough =
    let t : Turn = turn judging w act.actor act.step in
    let here = turn_only judging w act.actor act.step one is.0 is.1 enough.0 in
    let rest = course_only judging is.0 acts more after is.2 enough.1 in
    let same : course judging is.0 acts ≡ course judging t.world acts = ap (λ (v : World). course judging v acts) here.1 in (
      (λ i. here.0 i ∷ (rest.0 ∙ ap (λ (c : Course). c.given) same) i),
      rest.1 ∙ ap (λ (c : Course). c.world) same,
    )
course_only judging w acts given after is enough = absurd is

pub course_settled : (judging : Judging) (w : World) (acts : List Act) (given other : List Given) (after end : World) → IsCourse judging w acts given after → IsCourse judging w acts other end → map lacks_memory given ≡ map lacks_memory other
    → (given ≡ other) × (after ≡ end)
course_settled judging w [] [] [] after end is does alike = (refl, is ∙ sym does)
course_settled judging w [] (one ∷ more) other after end is does alike = absurd is
course_settled judging w (act ∷ acts) [] other after end is does alike = absurd is
course_settled judging w (act ∷ acts) (one ∷ more) (first ∷ rest) after end is does alike =
    let marks : ◌≡◌ {A = List Bool} (lacks_memory one ∷ map lacks_memory more) (lacks_memory first ∷ map lacks_memory rest) = alike in
    let mark : lacks_memory one ≡ lacks_memory first = cc in
    let later : map lacks_memory more ≡ map lacks_memory rest = cc in
    let step = turn_settled judging w act.actor act.step one first is.0 does.0 is.1 does.1 mark in
    let behind = course_settled judging is.0 acts more rest after end is.2 (subst (λ (v : World). IsCourse judging v acts rest end) (sym step.1) does.2) later in
    (λ i. step.0 i ∷ behind.0 i, behind.1)
course_settled judging w acts given other after end is does alike = absurd does
