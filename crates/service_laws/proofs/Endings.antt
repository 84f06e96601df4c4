-- Each ticket is issued under a number of its own, and ends at most once.
use Rattle.std.proofs.Common.{◌≡◌, ℕ, ◌+◌, ◌<◌, ◌==◌, Bool, true, false, if◌then◌else◌, List, [], ◌∷◌, ◌++◌, map, length, Option, Some, None, option_to_list, arith, refl, ap, sym, ◌∙◌, subst, length-append, append-nil, rules}
use Rattle.std.specs.List.{fold, AllByRecursion}
use Rattle.std.proofs.lemmas.Bool.{or_parts, or_from}
use Rattle.std.proofs.lemmas.List.{map-append}
use Rattle.std.proofs.lemmas.List.Folds.{list_any-append}
use Rattle.service_profile.specs.declared.decisions.Decision.{Decision}
use Rattle.service_profile.specs.declared.replies.Reply.{Reply}
use Rattle.service_profile.specs.declared.standings.Standing.{Standing}
use Rattle.service_profile.specs.declared.states.State.TheVariants as state
use Rattle.service_profile.specs.declared.tickets.OpenTicket.{OpenTicket}
use Rattle.service_profile.specs.Events.{EventData, EntryData, History}
use Rattle.service_profile.specs.Histories.{Stage, Past, end_by, end_at, issue_by, issue_at, ended, issued, is_listed, open_of, opened, passed, past_of, situation_of, machine, Follows, AreLegal, IsLegal}
use Rattle.service_profile.specs.Machine.{Situation, in_state, overstays, at_moment, is_open, is_entered, current_version}
use Rattle.service_laws.specs.Promises.{NoneTwice, numbers_issued}
use Rattle.book.specs.Sound.{next_ticket}
use Rattle.book.proofs.Deciding.{found_open}
use Rattle.book.proofs.Keeping.{end_refused}
use Rattle.book.proofs.Lawful.{spent_not_open}
use Rattle.book.proofs.Lists.{map_with, all_append, all_weaken}
use Rattle.book.proofs.Passing.{unlisted}
use Rattle.service_laws.proofs.Ways.{Way, way}

-- ---- one number more in a list that has none twice

unequal : (a b : ℕ) → (a == b) ≡ false → (b == a) ≡ false
unequal a b other = search rules

with_one : (numbers : List ℕ) (n : ℕ) → NoneTwice numbers → is_listed numbers n ≡ false → NoneTwice (numbers ++ n ∷ [])
with_one [] n once new = (refl, tt)
with_one (m ∷ numbers) n once new =
    let parts = or_parts (n == m) (is_listed numbers n) new in
    let last : is_listed (n ∷ []) m ≡ false = or_from (m == n) false (unequal n m parts.0) refl in
    let all = list_any-append (λ (other : ℕ). m == other) numbers (n ∷ []) in
    (all ∙ or_from (is_listed numbers m) (is_listed (n ∷ []) m) once.0 last, with_one numbers n once.1 parts.1)

with_option : (numbers : List ℕ) (o : Option ℕ) → NoneTwice numbers → ((n : ℕ) → o ≡ Some n → is_listed numbers n ≡ false) → NoneTwice (numbers ++ option_to_list o)
with_option numbers o once new = search (rules, append-nil, with_one)

-- ---- a ticket that ends is open before

same_tickets : (test : Bool) (moment : ℕ) (s : Situation) → (if test then in_state state.Open moment s else s).open_tickets ≡ s.open_tickets
same_tickets test moment s = search rules

same_number : (a b : ℕ) → ◌≡◌ {A = Option ℕ} (Some a) (Some b) → a ≡ b
same_number a b e = cc

not_none : {A : Type 0} (n : ℕ) → ◌≡◌ {A = Option ℕ} None (Some n) → A
not_none n e = cc

ends_open : (s : Situation) (moment : ℕ) (event : EventData) (d : Decision) (n : ℕ) → Way s moment event d → end_by event d.reply ≡ Some n → is_open s.open_tickets n ≡ true
ends_open s moment event d n a ends = search (rules, not_none, end_refused, same_number, found_open)

-- the way of a line that the machine writes
pub way_there : (past : Past) (line : EntryData) → Follows past line → Way (at_moment (situation_of past) line.moment) line.moment line.event (machine past line.moment line.event)
way_there past line follows = way (situation_of past) line.moment line.event (subst (λ (r : Reply). is_entered r ≡ true) follows.replied follows.entered)

open_unlisted : (stages : List Stage) (n : ℕ) → is_open (open_of stages) n ≡ true → is_listed (ended stages) n ≡ false
open_unlisted stages n there = search (rules, spent_not_open)

-- a line ends an open ticket alone
pub ends_of_open : (past : Past) (line : EntryData) (n : ℕ) → Follows past line → end_by line.event line.reply ≡ Some n → is_open (open_of past.stages) n ≡ true
ends_of_open past line n follows ends =
    let s : Situation = situation_of past in
    let there = ends_open (at_moment s line.moment) line.moment line.event (machine past line.moment line.event) n (way_there past line follows) (sym (ap (end_by line.event) follows.replied) ∙ ends) in
    subst (λ (ts : List OpenTicket). is_open ts n ≡ true) (same_tickets (overstays s line.moment) line.moment s) there

unended : (past : Past) (line : EntryData) (n : ℕ) → Follows past line → end_by line.event line.reply ≡ Some n → is_listed (ended past.stages) n ≡ false
unended past line n follows ends = open_unlisted past.stages n (ends_of_open past line n follows ends)

end_once_from : (past : Past) (lines : List EntryData) → NoneTwice (ended past.stages) → AreLegal past lines → NoneTwice (ended (fold passed past lines).stages)
end_once_from past [] once legal = once
end_once_from past (l ∷ lines) once legal =
    let stage : Stage = record { line = l; before = past.standing; after = (machine past l.moment l.event).next } in
    end_once_from (passed past l) lines
    (subst NoneTwice (sym (map_with end_at past.stages stage)) (with_option (ended past.stages) (end_by l.event l.reply) once (λ n ends. unended past l n legal.0 ends)))
    legal.1

pub end_once : (history : History) → IsLegal history → NoneTwice (ended (past_of history).stages)
unfolding IsLegal
end_once history legal = end_once_from (opened history.rolled history.opening) history.lines tt legal

-- ---- a ticket that is issued has the next number

same_next : (test : Bool) (moment : ℕ) (s : Situation) → (if test then in_state state.Open moment s else s).next_ticket ≡ s.next_ticket
same_next test moment s = search rules

same_version : (test : Bool) (moment : ℕ) (s : Situation) → current_version (if test then in_state state.Open moment s else s) ≡ current_version s
same_version test moment s = search rules

pub record IsNext (next current : ℕ) (o : Option OpenTicket) : Type 0 where
  pub number : (t : OpenTicket) → o ≡ Some t → t.number ≡ next
  pub version : (t : OpenTicket) → o ≡ Some t → t.version ≡ current

issues_next : (s : Situation) (moment : ℕ) (event : EventData) (d : Decision) (period now : ℕ) → Way s moment event d → IsNext s.next_ticket (current_version s) (issue_by d.reply period now)
issues_next s moment event d period now a = search rules

pub issued_next : (past : Past) (line : EntryData) (period now : ℕ) → Follows past line → IsNext (next_ticket past) (current_version (situation_of past)) (issue_by line.reply period now)
issued_next past line period now follows =
    let s : Situation = situation_of past in
    let r : Reply = (machine past line.moment line.event).reply in
    let there = issues_next (at_moment s line.moment) line.moment line.event (machine past line.moment line.event) period now (way_there past line follows) in
    subst (λ (x : Reply). IsNext (next_ticket past) (current_version s) (issue_by x period now)) (sym follows.replied)
    (subst (λ (n : ℕ). IsNext n (current_version s) (issue_by r period now)) (same_next (overstays s line.moment) line.moment s)
    (subst (λ (n : ℕ). IsNext (at_moment s line.moment).next_ticket n (issue_by r period now)) (same_version (overstays s line.moment) line.moment s) there))

unfoldable pub number_option : Option OpenTicket → Option ℕ
number_option None = None
number_option (Some t) = Some t.number

numbers_of_option : (o : Option OpenTicket) → map (λ (t : OpenTicket). t.number) (option_to_list o) ≡ option_to_list (number_option o)
unfolding number_option
numbers_of_option o = search rules

numbered_next : (next current : ℕ) (o : Option OpenTicket) (n : ℕ) → IsNext next current o → number_option o ≡ Some n → n ≡ next
unfolding number_option
numbered_next next current o n is e = search rules

pub numbers_step : (stages : List Stage) (stage : Stage) → numbers_issued (stages ++ stage ∷ []) ≡ numbers_issued stages ++ option_to_list (number_option (issue_at stage))
numbers_step stages stage = search (rules, map_with, map-append, numbers_of_option)

-- all numbers of tickets are below the next one, and none stands twice
pub record AreGiven (past : Past) : Type 0 where
  pub below : AllByRecursion (λ number. number < next_ticket past) (numbers_issued past.stages)
  pub once : NoneTwice (numbers_issued past.stages)

below_later : (next current later : ℕ) (o : Option OpenTicket) → IsNext next current o → next + length (option_to_list o) ≡ later → AllByRecursion (λ number. number < later) (option_to_list (number_option o))
unfolding number_option
below_later next current later o is e = search rules

given_step : (past : Past) (line : EntryData) → Follows past line → AreGiven past → AreGiven (passed past line)
given_step past line follows given =
    let next : Standing = (machine past line.moment line.event).next in
    let stage : Stage = record { line = line; before = past.standing; after = next } in
    let is = issued_next past line next.period line.moment follows in
    let steps = numbers_step past.stages stage in
    let later : ℕ = next_ticket (passed past line) in
    let count : next_ticket past + length (option_to_list (issue_at stage)) ≡ later = omega (arith, ap length (map_with issue_at past.stages stage), length-append (issued past.stages) (option_to_list (issue_at stage))) in
    let earlier = all_weaken (λ (n : ℕ). n < next_ticket past) (λ (n : ℕ). n < later) (λ (n : ℕ) h. omega (arith, h, count)) (numbers_issued past.stages) given.below in
    record {
      below = subst (AllByRecursion (λ (n : ℕ). n < later)) (sym steps) (all_append (λ (n : ℕ). n < later) (numbers_issued past.stages) (option_to_list (number_option (issue_at stage))) earlier (below_later (next_ticket past) (current_version (situation_of past)) later (issue_at stage) is count));
      once = subst NoneTwice (sym steps)
          (with_option (numbers_issued past.stages) (number_option (issue_at stage)) given.once
          (λ n e. subst (λ (k : ℕ). is_listed (numbers_issued past.stages) k ≡ false) (sym (numbered_next (next_ticket past) (current_version (situation_of past)) (issue_at stage) n is e)) (unlisted (next_ticket past) (numbers_issued past.stages) given.below)));
    }

given_from : (past : Past) (lines : List EntryData) → AreGiven past → AreLegal past lines → AreGiven (fold passed past lines)
given_from past [] given legal = given
given_from past (l ∷ lines) given legal = given_from (passed past l) lines (given_step past l legal.0 given) legal.1

pub all_given : (history : History) → IsLegal history → AreGiven (past_of history)
unfolding IsLegal
all_given history legal = given_from (opened history.rolled history.opening) history.lines (record { below = tt; once = tt }) legal

pub given_once : (history : History) → IsLegal history → NoneTwice (numbers_issued (past_of history).stages)
given_once history legal = (all_given history legal).once
