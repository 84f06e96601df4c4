-- Where tickets that are too old are released, none of them stays open.
use Rattle.std.proofs.Common.{◌≡◌, ◌≢◌, ◌∙◌, ℕ, ◌+◌, ◌-◌, ◌^◌, ◌<◌, ◌≤◌, ◌==◌, ◌&&◌, ◌||◌, nat_le, not, Bool, true, false, cond, if◌then◌else◌, List, [], ◌∷◌, ◌++◌, length, slice_get, Option, Some, None, option_to_list, inl, inr, refl, sym, ap, subst, arith, rules}
use Rattle.std.specs.Prelude.{⊤}
use Rattle.std.proofs.Math.Nat.{le-max_right}
use Rattle.std.proofs.lemmas.Bool.Decides.{nat_tests}
use Rattle.std.proofs.lemmas.List.{append-nil}
use Rattle.std.specs.List.{filter, fold, list_any, AllByRecursion}
use Rattle.refusals.specs.declared.RefusalNumber.TheVariants as refusal
use Rattle.bpf_profile.specs.JudgedWork.{JudgedData}
use Rattle.bpf_profile.specs.Programs.{VerifiedProgram}
use Rattle.service_profile.specs.declared.decisions.Decision.{Decision}
use Rattle.service_profile.specs.declared.replies.Reply.{Reply}
use Rattle.service_profile.specs.declared.replies.Reply.TheVariants as reply
use Rattle.service_profile.specs.declared.states.State.{State}
use Rattle.service_profile.specs.declared.states.State.TheVariants as state
use Rattle.service_profile.specs.declared.tickets.OpenTicket.{OpenTicket}
use Rattle.service_profile.specs.Answers.{answer, applied, with_line, line_of, IsApplied, as_documented, out_of_memory}
use Rattle.service_profile.specs.Calls.{CallData, CallAnswer, IsCalled}
use Rattle.service_profile.specs.Events.{EventData, finishes, releases, installs, EntryData, History}
use Rattle.service_profile.specs.Histories.{Past, Stage, past_of, situation_of, open_of, issued, issue_at, issue_by, end_by, opened, passed, machine, greatest, raised, Follows, AreLegal, IsLegal}
use Rattle.service_profile.specs.Machine.{Situation, decision, decided, meant, at_moment, overstays, in_state, is_full, is_issued, is_open, open_ticket, released, refused, is_entered}
use Rattle.book.specs.Accepted.{IsSafeProgram, IsEvent, IsJudged}
use Rattle.book.specs.Following.{is_number, tickets_after}
use Rattle.book.specs.Sound.{IsSound}
use Rattle.book.proofs.Accepting.{themselves}
use Rattle.book.specs.Good.{IsGood}
use Rattle.book.proofs.Effected.{all_mapped, lines_before}
use Rattle.book.proofs.Keeping.{open_are_issued, tickets_there}
use Rattle.book.proofs.Lists.{all_weaken, fewer_kept, kept_again, map_with, none_kept, same_kept}
use Rattle.book.proofs.Applying.{past_with}
use Rattle.book.proofs.Worlds.{IsKept, applied_kept}
use Rattle.service.specs.Upkept.{is_old, number_where_old, overdue, most_releases, old_tickets, IsReleased, AreReleased, HasReleased}

-- ---- one release more

pub released_more : {S : Type 0} (calls : S → CallData → CallAnswer → S → Type 0) (age moment : ℕ) (first last after : S) (answers : List Reply) (r : Reply) → AreReleased calls age moment first answers last → IsReleased calls age moment last r after
    → AreReleased calls age moment first (answers ++ r ∷ []) after
released_more calls age moment first last after [] r same one = (after, subst (λ (caller : _). IsReleased calls age moment caller r after) same one, refl)
released_more calls age moment first last after (q ∷ later) r (between, before, rest) one = (between, before, released_more calls age moment between last after later r rest one)

-- ---- the order of tickets

-- none was issued before the one that stands before it, nor the first before this moment
abbrev AreInTurn : ℕ → List OpenTicket → Type 0
AreInTurn first [] = ⊤
AreInTurn first (t ∷ ts) = (first ≤ t.moment) × AreInTurn t.moment ts

from_earlier : (a b : ℕ) (ts : List OpenTicket) → a ≤ b → AreInTurn b ts → AreInTurn a ts
from_earlier a b [] le turn = tt
from_earlier a b (t ∷ ts) le turn = (omega (arith, le, turn.0), turn.1)

head_stays : (b : Bool) (first : ℕ) (t : OpenTicket) (rest : List OpenTicket) → first ≤ t.moment → AreInTurn t.moment rest → AreInTurn first (cond b (t ∷ rest) rest)
head_stays true first t rest le turn = (le, turn)
head_stays false first t rest le turn = from_earlier first t.moment rest le turn

some_stay : (test : OpenTicket → Bool) (first : ℕ) (ts : List OpenTicket) → AreInTurn first ts → AreInTurn first (filter test ts)
some_stay test first [] turn = tt
some_stay test first (t ∷ ts) turn = head_stays (test t) first t (filter test ts) turn.0 (some_stay test t.moment ts turn.1)

with_later : (first : ℕ) (ts : List OpenTicket) (t : OpenTicket) → first ≤ t.moment → AllByRecursion (λ u. u.moment ≤ t.moment) ts → AreInTurn first ts → AreInTurn first (ts ++ t ∷ [])
with_later first [] t le all turn = (le, tt)
with_later first (u ∷ ts) t le all turn = (turn.0, with_later u.moment ts t all.0 all.1 turn.1)

with_some : (o : Option OpenTicket) (now : ℕ) (ts : List OpenTicket) → ((t : OpenTicket) → o ≡ Some t → t.moment ≡ now) → AllByRecursion (λ u. u.moment ≤ now) ts → AreInTurn 0 ts → AreInTurn 0 (ts ++ option_to_list o)
with_some None now ts is all turn = subst (AreInTurn 0) (sym (append-nil ts)) turn
with_some (Some t) now ts is all turn =
    with_later 0 ts t (omega arith) (all_weaken (λ (u : OpenTicket). u.moment ≤ now) (λ (u : OpenTicket). u.moment ≤ t.moment) (λ (u : OpenTicket) le. omega (arith, le, is t refl)) ts all) turn

issue_moment : (stage : Stage) (t : OpenTicket) → issue_at stage ≡ Some t → t.moment ≡ stage.line.moment
issue_moment stage t e = search rules

-- no ticket was issued after the greatest moment
issued_before : (past : Past) → AllByRecursion (λ ticket. ticket.moment ≤ greatest past) (issued past.stages)
issued_before past =
    all_mapped (λ (stage : Stage). stage.line.moment ≤ greatest past) (λ (t : OpenTicket). t.moment ≤ greatest past) issue_at
    (λ stage t le e. omega (arith, le, issue_moment stage t e))
    past.stages (lines_before past.opening.moment past.stages)

turn_step : (past : Past) (l : EntryData) → Follows past l → AreInTurn 0 (issued past.stages) → AreInTurn 0 (issued (passed past l).stages)
turn_step past l follows turn =
    let stage : Stage = record { line = l; before = past.standing; after = (machine past l.moment l.event).next } in
    subst (AreInTurn 0) (sym (map_with issue_at past.stages stage))
    (with_some (issue_at stage) l.moment (issued past.stages) (issue_moment stage)
    (all_weaken (λ (u : OpenTicket). u.moment ≤ greatest past) (λ (u : OpenTicket). u.moment ≤ l.moment) (λ (u : OpenTicket) le. omega (arith, le, follows.raises)) (issued past.stages) (issued_before past))
    turn)

turns_on : (past : Past) (lines : List EntryData) → AreLegal past lines → AreInTurn 0 (issued past.stages) → AreInTurn 0 (issued (fold passed past lines).stages)
turns_on past [] legal turn = turn
turns_on past (l ∷ lines) legal turn = turns_on (passed past l) lines legal.1 (turn_step past l legal.0 turn)

in_turn : (history : History) → IsLegal history → AreInTurn 0 (open_of (past_of history).stages)
unfolding IsLegal
in_turn history legal = some_stay _ 0 (issued (past_of history).stages) (turns_on (opened history.rolled history.opening) history.lines legal tt)

-- ---- where the first isn't old, none is

younger : (age moment a b : ℕ) → a ≤ b → nat_le age (moment - a) ≡ false → nat_le age (moment - b) ≡ false
younger age moment a b le e = grind (arith, nat_tests)

none_before : (first : ℕ) (ts : List OpenTicket) → AreInTurn first ts → AllByRecursion (λ t. first ≤ t.moment) ts
none_before first [] turn = tt
none_before first (t ∷ ts) turn = (turn.0, none_before first ts (from_earlier first t.moment ts turn.0 turn.1))

not_old : (b : Bool) (n : ℕ) → ◌≡◌ {A = Option ℕ} (if b then Some n else None) None → b ≡ false
not_old true n e = let bad : ◌≡◌ {A = Option ℕ} (Some n) None = e in cc
not_old false n e = refl

none_due : (age moment : ℕ) (ts : List OpenTicket) → AreInTurn 0 ts → number_where_old age moment (slice_get ts 0) ≡ None → filter (is_old age moment) ts ≡ []
none_due age moment [] turn e = refl
none_due age moment (t ∷ ts) turn e =
    none_kept (is_old age moment) (λ (u : OpenTicket). t.moment ≤ u.moment) (λ u le. younger age moment t.moment u.moment le (not_old (is_old age moment t) t.number e)) (t ∷ ts) (omega arith, none_before t.moment ts turn.1)

-- ---- a release

-- the first ticket is the one that is released, and is old
record IsFirst (age moment ticket : ℕ) (ts : List OpenTicket) : Type 0 where
  first : OpenTicket
  found : open_ticket ts ticket ≡ Some first
  among : list_any (λ t. t.number == ticket) (filter (is_old age moment) ts) ≡ true

same_number : (n : ℕ) → (n == n) ≡ true
same_number n = grind (arith, nat_tests)

found_first : (t : OpenTicket) (ts : List OpenTicket) → open_ticket (t ∷ ts) t.number ≡ Some t
found_first t ts = ap (λ (b : Bool). cond b (Some t) (open_ticket ts t.number)) (same_number t.number)

among_first : (age moment : ℕ) (t : OpenTicket) (ts : List OpenTicket) → is_old age moment t ≡ true → list_any (λ u. u.number == t.number) (filter (is_old age moment) (t ∷ ts)) ≡ true
among_first age moment t ts old =
    ap (λ (b : Bool). list_any (λ (u : OpenTicket). u.number == t.number) (cond b (t ∷ filter (is_old age moment) ts) (filter (is_old age moment) ts))) old
    ∙ ap (λ (b : Bool). b || list_any (λ (u : OpenTicket). u.number == t.number) (filter (is_old age moment) ts)) (same_number t.number)

by_old : (age moment ticket : ℕ) (t : OpenTicket) (ts : List OpenTicket) (b : Bool) → is_old age moment t ≡ b → ◌≡◌ {A = Option ℕ} (if b then Some t.number else None) (Some ticket) → IsFirst age moment ticket (t ∷ ts)
by_old age moment ticket t ts false old e = let bad : ◌≡◌ {A = Option ℕ} None (Some ticket) = e in cc
by_old age moment ticket t ts true old e =
    let same : t.number ≡ ticket = (let some : ◌≡◌ {A = Option ℕ} (Some t.number) (Some ticket) = e in cc) in
    record {
      first = t;
      found = subst (λ (n : ℕ). open_ticket (t ∷ ts) n ≡ Some t) same (found_first t ts);
      among = subst (λ (n : ℕ). list_any (λ (u : OpenTicket). u.number == n) (filter (is_old age moment) (t ∷ ts)) ≡ true) same (among_first age moment t ts old);
    }

first_due : (age moment ticket : ℕ) (ts : List OpenTicket) → number_where_old age moment (slice_get ts 0) ≡ Some ticket → IsFirst age moment ticket ts
first_due age moment ticket [] e = let bad : ◌≡◌ {A = Option ℕ} None (Some ticket) = e in absurd cc
first_due age moment ticket (t ∷ ts) e = by_old age moment ticket t ts (is_old age moment t) refl e

-- ---- what the machine answers to it

open_has_room : (full is_there : Bool) → is_there ≡ true → (full && not is_there) ≡ false
open_has_room true is_there e = ap not e
open_has_room false is_there e = refl

is_found : (ts : List OpenTicket) (ticket : ℕ) (t : OpenTicket) → open_ticket ts ticket ≡ Some t → is_open ts ticket ≡ true
is_found [] ticket t e = let bad : ◌≡◌ {A = Option OpenTicket} None (Some t) = e in cc
is_found (u ∷ ts) ticket t e = search (rules, is_found ts ticket t)

released_there : (s : Situation) (ticket : ℕ) (t : OpenTicket) → is_issued s ticket ≡ true → open_ticket s.open_tickets ticket ≡ Some t → (released s ticket).reply ≡ reply.Released s.standing.state
released_there s ticket t given found = search rules

released_then : (test : Bool) (s : Situation) (moment ticket : ℕ) (t : OpenTicket) → is_issued s ticket ≡ true → open_ticket s.open_tickets ticket ≡ Some t
    → (st : State) × ((released (if test then in_state state.Open moment s else s) ticket).reply ≡ reply.Released st)
released_then true s moment ticket t given found = (state.Open, released_there (in_state state.Open moment s) ticket t given found)
released_then false s moment ticket t given found = (s.standing.state, released_there s ticket t given found)

where_roomy : (full : Bool) (one other : Decision) → full ≡ false → (if full then one else other) ≡ other
where_roomy true one other e = let bad : ◌≡◌ {A = Bool} true false = e in cc
where_roomy false one other e = refl

answer_released : (s : Situation) (moment ticket : ℕ) (t : OpenTicket) → is_issued s ticket ≡ true → open_ticket s.open_tickets ticket ≡ Some t → (st : State) × ((decision s moment (releases ticket)).reply ≡ reply.Released st)
unfolding Rattle.service_profile.specs.Machine.decision_by
answer_released s moment ticket t given found =
    let then_ = released_then (overstays s moment) s moment ticket t given found in
    let roomy = where_roomy (is_full s (releases ticket)) (refused s.standing refusal.JournalFull) (decided meant (at_moment s moment) moment (releases ticket)) (open_has_room _ _ (is_found s.open_tickets ticket t found)) in
    (then_.0, ap (λ (d : Decision). d.reply) roomy ∙ then_.1)

-- ---- what it leaves

no_program : (ticket : ℕ) (program : VerifiedProgram) → releases ticket ≡ installs program → IsSafeProgram program
no_program ticket program e = absurd (let bad : ◌≡◌ {A = EventData} (releases ticket) (installs program) = e in cc)

no_work : (other : ℕ) (work : JudgedData) (ticket : ℕ) → releases other ≡ finishes work ticket → IsJudged IsSafeProgram work
no_work other work ticket e = absurd (let bad : ◌≡◌ {A = EventData} (releases other) (finishes work ticket) = e in cc)

release_good : (ticket : ℕ) → IsEvent IsSafeProgram (releases ticket)
release_good ticket = record { installs_accepted = no_program ticket; judged = no_work ticket }

both_ways : (a b : Bool) → (a && b) ≡ (b && a)
both_ways true true = refl
both_ways true false = refl
both_ways false true = refl
both_ways false false = refl

-- one of the old tickets is gone
one_less : (age moment ticket : ℕ) (ts : List OpenTicket) → IsFirst age moment ticket ts → length (filter (is_old age moment) (filter (λ t. not (t.number == ticket)) ts)) + 1 ≤ length (filter (is_old age moment) ts)
one_less age moment ticket ts is =
    let stays : OpenTicket → Bool = λ t. not (t.number == ticket) in
    let turned : filter (is_old age moment) (filter stays ts) ≡ filter stays (filter (is_old age moment) ts) =
    sym (kept_again stays (is_old age moment) ts) ∙ same_kept (λ t. stays t && is_old age moment t) (λ t. is_old age moment t && stays t) (λ t. both_ways (stays t) (is_old age moment t)) ts ∙ kept_again (is_old age moment) stays ts in
    omega (arith, ap length turned, fewer_kept (λ (t : OpenTicket). t.number == ticket) (filter (is_old age moment) ts) is.among)

-- the open tickets behind the line of a release
left_open : (past : Past) (l : EntryData) (ticket : ℕ) (st : State) → IsSound IsSafeProgram past → Follows past l → l.event ≡ releases ticket → (machine past l.moment l.event).reply ≡ reply.Released st
    → open_of (passed past l).stages ≡ filter (λ t. not (t.number == ticket)) (open_of past.stages)
left_open past l ticket st sound follows event_is r =
    tickets_there past l sound follows
    ∙ ap (λ (x : Reply). tickets_after (open_of past.stages) (end_by l.event x) (issue_by x (machine past l.moment l.event).next.period l.moment)) r
    ∙ ap (λ (e : EventData). tickets_after (open_of past.stages) (end_by e (reply.Released st)) None) event_is
    ∙ append-nil (filter (λ (t : OpenTicket). not (is_number (Some ticket) t.number)) (open_of past.stages))

entered_there : (b : Bool) (one other : History) → b ≡ true → (if b then one else other) ≡ one
entered_there true one other e = refl
entered_there false one other e = let bad : ◌≡◌ {A = Bool} false true = e in cc

-- the tickets of a history that are open
abbrev open_in : History → List OpenTicket
open_in history = open_of (past_of history).stages

released_leaves : (seat moment ticket : ℕ) (history after : History) (t : OpenTicket) → IsGood history → open_ticket (open_in history) ticket ≡ Some t → after ≡ applied history seat moment (releases ticket)
    → open_in after ≡ filter (λ u. not (u.number == ticket)) (open_in history)
released_leaves seat moment ticket history after t good found leads =
    let past : Past = past_of history in
    let l : EntryData = line_of history seat moment (releases ticket) in
    let said = answer_released (situation_of past) (raised past moment) ticket t (open_are_issued past good.sound ticket (is_found (open_in history) ticket t found)) found in
    let entered : is_entered (answer history moment (releases ticket)).reply ≡ true = ap is_entered said.1 in
    let follows : Follows past l = record { numbered = refl; raises = le-max_right moment (greatest past); replied = refl; entered = entered } in
    ap open_in (leads ∙ entered_there (is_entered (answer history moment (releases ticket)).reply) (with_line history l) history entered)
    ∙ ap (λ (p : Past). open_of p.stages) (past_with history.opening history.lines history.rolled l)
    ∙ left_open past l ticket said.0 good.sound follows refl said.1

good_after : (seat moment ticket : ℕ) (history after : History) (r : Reply) → moment < 2 ^ 64 → seat < 2 ^ 32 → IsGood history → IsApplied history seat moment (releases ticket) r after → IsGood after
good_after seat moment ticket history after r word bits good is =
    let kept : IsKept IsSafeProgram after = applied_kept IsSafeProgram themselves history seat moment (releases ticket) r after (record { legal = good.legal; sound = good.sound }) word bits (release_good ticket) is in
    record { legal = kept.legal; sound = kept.sound }

less_by_one : (seat age moment ticket : ℕ) (history after : History) (r : Reply) → IsGood history → IsFirst age moment ticket (open_in history) → r ≢ reply.Refused refusal.ServiceOutOfMemory → IsApplied history seat moment (releases ticket) r after
    → length (old_tickets age moment after) + 1 ≤ length (old_tickets age moment history)
less_by_one seat age moment ticket history after r good first not_short (out_of_memory is entered same) = absurd (not_short is)
less_by_one seat age moment ticket history after r good first not_short (as_documented is leads) =
    let left = released_leaves seat moment ticket history after first.first good first.found leads in
    omega (arith, ap (λ (ts : List OpenTicket). length (filter (is_old age moment) ts)) left, one_less age moment ticket (open_in history) first)

-- ---- one after another

record IsLeft (age moment answered : ℕ) (history after : History) : Type 0 where
  good : IsGood after
  fewer : length (old_tickets age moment after) + answered ≤ length (old_tickets age moment history)

left_by : (seat age moment : ℕ) → moment < 2 ^ 64 → seat < 2 ^ 32 → (answers : List Reply) (history after : History) → IsGood history → AreReleased (IsCalled seat) age moment history answers after
    → AllByRecursion (λ r. r ≢ reply.Refused refusal.ServiceOutOfMemory) answers → IsLeft age moment (length answers) history after
left_by seat age moment word bits [] history after good same all =
    record { good = subst IsGood (sym same) good; fewer = omega (arith, ap (λ (h : History). length (old_tickets age moment h)) same) }
left_by seat age moment word bits (r ∷ later) history after good (between, (shown, seen, ticket, told, old, ended), rest) all =
    let here : IsApplied history seat moment (releases ticket) r between = subst (λ (h : History). IsApplied h seat moment (releases ticket) r between) told.1 ended in
    let first : IsFirst age moment ticket (open_in history) = first_due age moment ticket (open_in history) (ap (overdue age moment) (sym told.0) ∙ old) in
    let less = less_by_one seat age moment ticket history between r good first all.0 here in
    let next = left_by seat age moment word bits later between after (good_after seat moment ticket history between r word bits good here) rest all.1 in
    record { good = next.good; fewer = omega (arith, less, next.fewer) }

no_length : (ts : List OpenTicket) → length ts ≡ 0 → ts ≡ []
no_length [] e = refl
no_length (t ∷ ts) e = absurd (omega (arith, e))

pub none_old : (seat age moment : ℕ) (history after : History) (answers : List Reply) → moment < 2 ^ 64 → seat < 2 ^ 32 → IsGood history → length (old_tickets age moment history) ≤ most_releases → HasReleased (IsCalled seat) age moment history answers after
    → AllByRecursion (λ r. r ≢ reply.Refused refusal.ServiceOutOfMemory) answers → old_tickets age moment after ≡ []
none_old seat age moment history after answers word bits good few (between, released, inl (count, same)) all =
    let left = left_by seat age moment word bits answers history between good released all in
    ap (old_tickets age moment) same ∙ no_length (old_tickets age moment between) (omega (arith, few, count, left.fewer))
none_old seat age moment history after answers word bits good few (between, released, inr (fewer, (shown, told, none))) all =
    let left = left_by seat age moment word bits answers history between good released all in
    ap (old_tickets age moment) told.1 ∙ none_due age moment (open_in between) (in_turn between left.good.legal) (ap (overdue age moment) (sym told.0) ∙ none)
