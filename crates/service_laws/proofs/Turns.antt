-- Over all openings no number is given to two tickets, and no ticket ends twice.
use Rattle.std.proofs.Common.{◌≡◌, ℕ, ◌+◌, ◌≤◌, ◌<◌, ◌==◌, not, Bool, true, false, if◌then◌else◌, List, [], ◌∷◌, ◌++◌, map, length, Option, Some, Ok, option_to_list, arith, refl, ap, sym, ◌∙◌, subst, length-append, rules}
use Rattle.std.specs.List.{fold, filter, flat_map, AllByRecursion}
use Rattle.std.proofs.lemmas.Bool.{or_from, ne_eqb}
use Rattle.std.proofs.lemmas.List.Folds.{list_any-append}
use Rattle.service_profile.specs.declared.standings.Standing.{Standing}
use Rattle.service_profile.specs.declared.tickets.OpenTicket.{OpenTicket}
use Rattle.service_profile.specs.Answers.{cut}
use Rattle.service_profile.specs.Events.{EntryData, Opening, History}
use Rattle.service_profile.specs.Histories.{Stage, Past, end_by, end_at, issue_at, issued, ended, is_listed, opened, passed, past_of, machine, Follows, AreLegal, IsLegal}
use Rattle.service_profile.specs.Machine.{is_open}
use Rattle.book.specs.Sound.{next_ticket}
use Rattle.book.proofs.Applying.{same_opening}
use Rattle.book.proofs.Lists.{map_with, all_append, all_weaken}
use Rattle.service_laws.specs.Promises.{NoneTwice, numbers_issued, AreCutInTurn}
use Rattle.service_laws.proofs.Endings.{IsNext, issued_next, number_option, numbers_step, ends_of_open, end_once, given_once}

-- ---- the tickets of an opening have the numbers from its first one to the next one

abbrev IsWithin : Past → ℕ → Type 0
IsWithin past n = (past.opening.ticket ≤ n) × (n < next_ticket past)

record AreWithin (past : Past) : Type 0 where
  pub issued : AllByRecursion (IsWithin past) (numbers_issued past.stages)
  pub ended : AllByRecursion (IsWithin past) (ended past.stages)

kept_case : (P : ℕ → Type 0) (keeps : Bool) (t : OpenTicket) (rest : List OpenTicket) (n : ℕ) → P t.number → (is_open rest n ≡ true → P n) → is_open (if keeps then t ∷ rest else rest) n ≡ true → P n
kept_case P keeps t rest n here on e = search rules

-- what holds of all tickets holds of the open ones
open_all : (P : ℕ → Type 0) (q : OpenTicket → Bool) (tickets : List OpenTicket) (n : ℕ) → AllByRecursion P (map (λ (t : OpenTicket). t.number) tickets) → is_open (filter q tickets) n ≡ true → P n
open_all P q [] n all e = let bad : ◌≡◌ {A = Bool} false true = e in cc
open_all P q (t ∷ tickets) n all e = kept_case P (q t) t (filter q tickets) n all.0 (open_all P q tickets n all.1) e

issued_option : (past after : Past) (current : ℕ) (o : Option OpenTicket) → IsNext (next_ticket past) current o → past.opening.ticket ≡ after.opening.ticket → next_ticket past + length (option_to_list o) ≡ next_ticket after
    → AllByRecursion (IsWithin after) (option_to_list (number_option o))
unfolding number_option
issued_option past after current o is same e = search rules

ended_option : (P : ℕ → Type 0) (o : Option ℕ) → ((n : ℕ) → o ≡ Some n → P n) → AllByRecursion P (option_to_list o)
ended_option P o on = search rules

within_step : (past : Past) (line : EntryData) → Follows past line → AreWithin past → AreWithin (passed past line)
within_step past line follows within =
    let next : Standing = (machine past line.moment line.event).next in
    let stage : Stage = record { line = line; before = past.standing; after = next } in
    let after : Past = passed past line in
    let count : next_ticket past + length (option_to_list (issue_at stage)) ≡ next_ticket after = omega (arith, ap length (map_with issue_at past.stages stage), length-append (issued past.stages) (option_to_list (issue_at stage))) in
    let wider : (n : ℕ) → IsWithin past n → IsWithin after n = λ n h. (h.0, omega (arith, h.1, count)) in
    record {
      issued = subst (AllByRecursion (IsWithin after)) (sym (numbers_step past.stages stage))
          (all_append (IsWithin after) (numbers_issued past.stages) (option_to_list (number_option (issue_at stage))) (all_weaken (IsWithin past) (IsWithin after) wider (numbers_issued past.stages) within.issued)
          (issued_option past after _ (issue_at stage) (issued_next past line next.period line.moment follows) refl count));
      ended = subst (AllByRecursion (IsWithin after)) (sym (map_with end_at past.stages stage))
          (all_append (IsWithin after) (ended past.stages) (option_to_list (end_at stage)) (all_weaken (IsWithin past) (IsWithin after) wider (ended past.stages) within.ended)
          (ended_option (IsWithin after) (end_by line.event line.reply)
          (λ n ends. wider n (open_all (IsWithin past) (λ (t : OpenTicket). not (is_listed (ended past.stages) t.number)) (issued past.stages) n within.issued (ends_of_open past line n follows ends)))));
    }

within_from : (past : Past) (lines : List EntryData) → AreWithin past → AreLegal past lines → AreWithin (fold passed past lines)
within_from past [] within legal = within
within_from past (l ∷ lines) within legal = within_from (passed past l) lines (within_step past l legal.0 within) legal.1

all_within : (history : History) → IsLegal history → AreWithin (past_of history)
unfolding IsLegal
all_within history legal = within_from (opened history.rolled history.opening) history.lines (record { issued = tt; ended = tt }) legal

-- ---- one opening behind another

above : (x : ℕ) (ys : List ℕ) (bound : ℕ) → x < bound → AllByRecursion (λ n. bound ≤ n) ys → is_listed ys x ≡ false
above x [] bound less from = refl
above x (y ∷ ys) bound less from = rw (ne_eqb x y (λ is. omega (arith, less, from.0, is))) (above x ys bound less from.1)

apart : (xs ys : List ℕ) (bound : ℕ) → NoneTwice xs → NoneTwice ys → AllByRecursion (λ n. n < bound) xs → AllByRecursion (λ n. bound ≤ n) ys → NoneTwice (xs ++ ys)
apart [] ys bound once too below from = too
apart (x ∷ xs) ys bound once too below from =
    (list_any-append (λ (other : ℕ). x == other) xs ys ∙ or_from (is_listed xs x) (is_listed ys x) once.0 (above x ys bound below.0 from), apart xs ys bound once.1 too below.1 from)

-- the first ticket of the next opening
goes_on : (before next : History) → cut (past_of before) ≡ Ok next.opening → next.opening.ticket ≡ next_ticket (past_of before)
goes_on before next e = search rules

module _ (f : History → List ℕ) (once : (history : History) → IsLegal history → NoneTwice (f history)) (within : (history : History) → IsLegal history → AllByRecursion (IsWithin (past_of history)) (f history)) where
  abbrev IsInTurn : History → List ℕ → Type 0
  IsInTurn history numbers = NoneTwice numbers × AllByRecursion (λ n. history.opening.ticket ≤ n) numbers

  from_opening : (history : History) → IsLegal history → AllByRecursion (λ n. history.opening.ticket ≤ n) (f history)
  from_opening history legal =
      let same = ap (λ (o : Opening). o.ticket) (same_opening history.opening history.lines history.rolled) in
      all_weaken (IsWithin (past_of history)) (λ (n : ℕ). history.opening.ticket ≤ n) (λ n h. omega (arith, h.0, same)) (f history) (within history legal)

  below_next : (history : History) → IsLegal history → AllByRecursion (λ n. n < next_ticket (past_of history)) (f history)
  below_next history legal = all_weaken (IsWithin (past_of history)) (λ (n : ℕ). n < next_ticket (past_of history)) (λ n h. h.1) (f history) (within history legal)

  pub in_turn : (history : History) (further : List History) → IsLegal history → AreCutInTurn history further → IsInTurn history (flat_map f (history ∷ further))
  in_turn history [] legal cuts = (
    apart (f history) [] (next_ticket (past_of history)) (once history legal) tt (below_next history legal) tt,
    all_append (λ (n : ℕ). history.opening.ticket ≤ n) (f history) [] (from_opening history legal) tt,
  )
  in_turn history (next ∷ further) legal cuts =
      let past : Past = past_of history in
      let rest = in_turn next further cuts.1.0 cuts.1.1 in
      let first : next.opening.ticket ≡ next_ticket past = goes_on history next cuts.0 in
      let same = ap (λ (o : Opening). o.ticket) (same_opening history.opening history.lines history.rolled) in
      let behind = all_weaken (λ (n : ℕ). next.opening.ticket ≤ n) (λ (n : ℕ). next_ticket past ≤ n) (λ n h. omega (arith, h, first)) (flat_map f (next ∷ further)) rest.1 in
      let wider = all_weaken (λ (n : ℕ). next.opening.ticket ≤ n) (λ (n : ℕ). history.opening.ticket ≤ n) (λ n h. omega (arith, h, first, same)) (flat_map f (next ∷ further)) rest.1 in (
        apart (f history) (flat_map f (next ∷ further)) (next_ticket past) (once history legal) rest.0 (below_next history legal) behind,
        all_append (λ (n : ℕ). history.opening.ticket ≤ n) (f history) (flat_map f (next ∷ further)) (from_opening history legal) wider,
      )

pub given_in_turn : (first : History) (further : List History) → IsLegal first → AreCutInTurn first further → NoneTwice (flat_map (λ (history : History). numbers_issued (past_of history).stages) (first ∷ further))
given_in_turn first further legal cuts = (in_turn (λ (history : History). numbers_issued (past_of history).stages) given_once (λ history l. (all_within history l).issued) first further legal cuts).0

pub ended_in_turn : (first : History) (further : List History) → IsLegal first → AreCutInTurn first further → NoneTwice (flat_map (λ (history : History). ended (past_of history).stages) (first ∷ further))
ended_in_turn first further legal cuts = (in_turn (λ (history : History). ended (past_of history).stages) end_once (λ history l. (all_within history l).ended) first further legal cuts).0
