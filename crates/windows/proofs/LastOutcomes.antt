-- Rings of outcomes.
use Rattle.std.proofs.Common.{◌≡◌, ℕ, suc, ◌+◌, ◌-◌, ◌≤◌, ◌<◌, ◌^◌, ◌==◌, Bool, true, false, cond, Option, Some, None, List, [], ◌∷◌, ◌++◌, length, map, drop, slice_get, arith, refl, ap, sym, ◌∙◌, length-append, length-drop}
use Rattle.std.proofs.lemmas.Bool.{eqb-true, eqb-false}
use Rattle.std.proofs.lemmas.List.{map-append, drop-map, length-map}
use Rattle.circular_buffer.specs.Buffer.{keep_last}
use Rattle.service_profile.specs.declared.notes.Note.{Note}
use Rattle.service_profile.specs.declared.notes.Totals.{Totals}
use Rattle.service_profile.specs.Windows.{last, totals_of}
use Rattle.service_profile.specs.RunningTotals.{AreTotals}
use Rattle.windows.specs.declared.outcomes.Outcome.{Outcome}
use Rattle.windows.specs.Held.{HeldOutcomes}
use Rattle.windows.specs.Kept.{outcome_of, KeepsOutcomes}
use Rattle.windows.specs.Rings.{leaving, totals_of_outcome}
use Rattle.windows.specs.Sums.{plus, minus, one_note, sum_of, IsPart}
use Rattle.windows.proofs.Lists.{all_last_kept, last_again}
use Rattle.windows.proofs.Adding.{length_is_sum, sum_cons, sum_push, sum_map, sum_without_first, first_part, totals_are_sums}

first_there : {X : Type 0} (xs : List X) (x : X) → slice_get xs 0 ≡ Some x → xs ≡ x ∷ drop 1 xs
first_there [] x e = let bad : ◌≡◌ {A = Option _} None (Some x) = e in cc
first_there (y ∷ xs) x e = let same : ◌≡◌ {A = Option _} (Some y) (Some x) = e in let is : y ≡ x = cc in rw is refl

none_there : {X : Type 0} (xs : List X) → slice_get xs 0 ≡ None → length xs ≡ 0
none_there [] e = refl
none_there (y ∷ xs) e = let bad : ◌≡◌ {A = Option _} (Some y) None = e in cc

-- a full ring loses its first element
pub leaves_full : {X : Type 0} (capacity : ℕ) (xs : List X) (x : X) → leaving capacity xs ≡ Some x → (length xs ≡ capacity) × (xs ≡ x ∷ drop 1 xs)
leaves_full capacity xs x e = by_test (length xs == capacity) refl e
  where
    by_test : (b : Bool) → (length xs == capacity) ≡ b → cond b (slice_get xs 0) None ≡ Some x → (length xs ≡ capacity) × (xs ≡ x ∷ drop 1 xs)
    by_test true is e = (eqb-true (length xs) capacity is, first_there xs x e)
    by_test false is e = let bad : ◌≡◌ {A = Option _} None (Some x) = e in cc

pub stays_roomy : {X : Type 0} (capacity : ℕ) (xs : List X) → 1 ≤ capacity → length xs ≤ capacity → leaving capacity xs ≡ None → length xs + 1 ≤ capacity
stays_roomy capacity xs some fits e = by_test (length xs == capacity) refl e
  where
    by_test : (b : Bool) → (length xs == capacity) ≡ b → cond b (slice_get xs 0) None ≡ None → length xs + 1 ≤ capacity
    by_test true is e = absurd (omega (arith, some, none_there xs e, eqb-true (length xs) capacity is))
    by_test false is e = let other : length xs ≡ capacity → ⊥ = eqb-false (length xs) capacity is in omega (arith, other, fits)

pub first_is_part : (capacity : ℕ) (xs : List Outcome) (x : Outcome) (totals : Totals) → totals ≡ sum_of totals_of_outcome xs → leaving capacity xs ≡ Some x → IsPart (totals_of_outcome x) totals
first_is_part capacity xs x totals summed e =
    let is : totals ≡ sum_of totals_of_outcome (x ∷ drop 1 xs) = summed ∙ ap (sum_of totals_of_outcome) (leaves_full capacity xs x e).1 in
    rw is (first_part totals_of_outcome x (drop 1 xs))

-- the totals with one more, where the ring is full
pub after_full : (capacity : ℕ) (xs : List Outcome) (oldest outcome : Outcome) (totals : Totals) → 1 ≤ capacity → totals ≡ sum_of totals_of_outcome xs → leaving capacity xs ≡ Some oldest
    → plus (minus totals (totals_of_outcome oldest)) (totals_of_outcome outcome) ≡ sum_of totals_of_outcome (keep_last capacity (xs ++ outcome ∷ []))
after_full capacity xs oldest outcome totals some summed e =
    let full : length xs ≡ capacity = (leaves_full capacity xs oldest e).0 in
    let is : xs ≡ oldest ∷ drop 1 xs = (leaves_full capacity xs oldest e).1 in
    let one : length (xs ++ outcome ∷ []) - capacity ≡ 1 = omega (arith, full, length-append xs (outcome ∷ [])) in
    let kept : keep_last capacity (xs ++ outcome ∷ []) ≡ drop 1 xs ++ outcome ∷ [] =
    ap (λ (k : ℕ). drop k (xs ++ outcome ∷ [])) one ∙ ap (λ (ys : List Outcome). drop 1 (ys ++ outcome ∷ [])) is in
    let without : minus totals (totals_of_outcome oldest) ≡ sum_of totals_of_outcome (drop 1 xs) =
    ap (λ (t : Totals). minus t (totals_of_outcome oldest)) (summed ∙ ap (sum_of totals_of_outcome) is) ∙ sum_without_first totals_of_outcome oldest (drop 1 xs) in
    ap (λ (t : Totals). plus t (totals_of_outcome outcome)) without ∙ sym (sum_push totals_of_outcome (drop 1 xs) outcome) ∙ ap (sum_of totals_of_outcome) (sym kept)

pub after_roomy : (capacity : ℕ) (xs : List Outcome) (outcome : Outcome) (totals : Totals) → 1 ≤ capacity → length xs ≤ capacity → totals ≡ sum_of totals_of_outcome xs → leaving capacity xs ≡ None
    → plus totals (totals_of_outcome outcome) ≡ sum_of totals_of_outcome (keep_last capacity (xs ++ outcome ∷ []))
after_roomy capacity xs outcome totals some fits summed e =
    let room : length xs + 1 ≤ capacity = stays_roomy capacity xs some fits e in
    let kept : keep_last capacity (xs ++ outcome ∷ []) ≡ xs ++ outcome ∷ [] = all_last_kept capacity (xs ++ outcome ∷ []) (omega (arith, room, length-append xs (outcome ∷ []))) in
    ap (λ (t : Totals). plus t (totals_of_outcome outcome)) summed ∙ sym (sum_push totals_of_outcome xs outcome) ∙ ap (sum_of totals_of_outcome) (sym kept)

pub kept_fits : {X : Type 0} (n : ℕ) (xs : List X) → length (keep_last n xs) ≤ n
kept_fits n xs = omega (arith, length-drop (length xs - n) xs)

map_last : (n : ℕ) (notes : List Note) → map outcome_of (last n notes) ≡ keep_last n (map outcome_of notes)
map_last n notes = sym (ap (λ (k : ℕ). drop (k - n) (map outcome_of notes)) (length-map notes outcome_of) ∙ drop-map outcome_of (length notes - n) notes)

-- the last outcomes with one more are those of the last notes with one more
pub keeps_outcome : (held : HeldOutcomes) (notes : List Note) (note : Note) → KeepsOutcomes held notes → keep_last held.size (held.outcomes ++ outcome_of note ∷ []) ≡ map outcome_of (last held.size (notes ++ note ∷ []))
keeps_outcome held notes note kept =
    ap (λ (ys : List Outcome). keep_last held.size (ys ++ outcome_of note ∷ [])) (kept ∙ map_last held.size notes)
    ∙ last_again held.size (map outcome_of notes) (outcome_of note)
    ∙ ap (λ (ys : List Outcome). keep_last held.size ys) (sym (map-append outcome_of notes (note ∷ [])))
    ∙ sym (map_last held.size (notes ++ note ∷ []))

pub outcomes_summed : (notes : List Note) → sum_of totals_of_outcome (map outcome_of notes) ≡ totals_of notes
outcomes_summed notes = sum_map totals_of_outcome outcome_of notes ∙ sym (totals_are_sums notes)

-- no count is greater than the number of outcomes
pub outcomes_counted : (xs : List Outcome) → AreTotals (length xs) (sum_of totals_of_outcome xs)
outcomes_counted [] = record { total = omega arith; failed = omega arith; slow = omega arith }
outcomes_counted (x ∷ xs) = rw (sum_cons totals_of_outcome x xs) (one_more x.failed x.slow (outcomes_counted xs))
  where
    one_more : {n : ℕ} {t : Totals} (failed slow : Bool) → AreTotals n t → AreTotals (suc n) (plus (one_note failed slow) t)
    one_more true true a = record { total = omega (arith, a.total); failed = omega (arith, a.failed); slow = omega (arith, a.slow) }
    one_more true false a = record { total = omega (arith, a.total); failed = omega (arith, a.failed); slow = omega (arith, a.slow) }
    one_more false true a = record { total = omega (arith, a.total); failed = omega (arith, a.failed); slow = omega (arith, a.slow) }
    one_more false false a = record { total = omega (arith, a.total); failed = omega (arith, a.failed); slow = omega (arith, a.slow) }

-- the counts of a ring fit in a word
pub ring_counted : (capacity : ℕ) (xs : List Outcome) → capacity < 2 ^ 32 → AreTotals (2 ^ 64 - 1) (sum_of totals_of_outcome (keep_last capacity xs))
ring_counted capacity xs few =
    let counted : AreTotals (length (keep_last capacity xs)) (sum_of totals_of_outcome (keep_last capacity xs)) = outcomes_counted (keep_last capacity xs) in
    let fits : length (keep_last capacity xs) ≤ capacity = kept_fits capacity xs in
    record { total = omega (arith, counted.total, fits, few); failed = omega (arith, counted.failed, fits, few); slow = omega (arith, counted.slow, fits, few) }

-- no count of a ring is greater than the total
pub outcomes_within : (xs : List Outcome) → AreTotals (sum_of totals_of_outcome xs).total (sum_of totals_of_outcome xs)
outcomes_within xs =
    let counted : AreTotals (length xs) (sum_of totals_of_outcome xs) = outcomes_counted xs in
    let total : length xs ≡ (sum_of totals_of_outcome xs).total = length_is_sum xs in
    record { total = omega arith; failed = omega (arith, counted.failed, total); slow = omega (arith, counted.slow, total) }
