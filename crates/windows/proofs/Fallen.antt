-- Buckets that have fallen out of a window.
use Rattle.std.proofs.Common.{◌≡◌, ℕ, zero, suc, ◌<◌, Bool, true, false, cond, Option, Some, None, List, [], ◌∷◌, length, drop, slice_get, arith, refl, ap, sym, ◌∙◌}
use Rattle.std.specs.List.{AllByRecursion}
use Rattle.std.proofs.lemmas.Bool.{cond-true}
use Rattle.service_profile.specs.declared.notes.Totals.{Totals}
use Rattle.windows.specs.declared.buckets.Bucket.{Bucket}
use Rattle.windows.specs.Rings.{has_fallen, if_fallen, left, totals_of_bucket}
use Rattle.windows.specs.Sums.{minus, sum_of, IsPart}
use Rattle.windows.proofs.Adding.{sum_without_first, first_part, rest_part, part_same, part_again}

module _ (size second : ℕ) where
  -- the bucket at the front of what is left
  record Falls (bucket : Bucket) (xs : List Bucket) (i : ℕ) : Type 0 where
    within : i < length xs
    fallen : has_fallen size second bucket ≡ true
    front : drop i xs ≡ bucket ∷ drop (suc i) xs

  falls : (xs : List Bucket) (i : ℕ) (bucket : Bucket) → if_fallen size second (slice_get xs i) ≡ Some bucket → Falls bucket xs i
  falls [] i bucket e = let bad : ◌≡◌ {A = Option Bucket} None (Some bucket) = e in cc
  falls (x ∷ xs) zero bucket e = by_test (has_fallen size second x) refl e
    where
      by_test : (b : Bool) → has_fallen size second x ≡ b → cond b (Some x) None ≡ Some bucket → Falls bucket (x ∷ xs) zero
      by_test true is e =
          let same : x ≡ bucket = cc in
          record { within = omega arith; fallen = rw (← same) is; front = rw same refl }
      by_test false is e = let bad : ◌≡◌ {A = Option Bucket} None (Some bucket) = e in cc
  falls (x ∷ xs) (suc i) bucket e = let rest : Falls bucket xs i = falls xs i bucket e in record { within = omega (arith, rest.within); fallen = rest.fallen; front = rest.front }

  -- with a fallen bucket at a place, the totals from the next place on, and the same is left
  pub record FallsAt (bucket : Bucket) (totals : Totals) (xs : List Bucket) (i : ℕ) : Type 0 where
    pub within : i < length xs
    pub part : IsPart bucket.totals totals
    pub summed : minus totals bucket.totals ≡ sum_of totals_of_bucket (drop (suc i) xs)
    pub same : left size second (drop (suc i) xs) ≡ left size second (drop i xs)

  pub falls_at : (xs : List Bucket) (i : ℕ) (bucket : Bucket) (totals : Totals) → if_fallen size second (slice_get xs i) ≡ Some bucket → totals ≡ sum_of totals_of_bucket (drop i xs) → FallsAt bucket totals xs i
  falls_at xs i bucket totals e summed =
      let f : Falls bucket xs i = falls xs i bucket e in
      let is : totals ≡ sum_of totals_of_bucket (bucket ∷ drop (suc i) xs) = summed ∙ ap (sum_of totals_of_bucket) f.front in
      record {
        within = f.within;
        part = rw is (first_part totals_of_bucket bucket (drop (suc i) xs));
        summed = rw is (sum_without_first totals_of_bucket bucket (drop (suc i) xs));
        same = sym (ap (left size second) f.front ∙ cond-true (has_fallen size second bucket) (left size second (drop (suc i) xs)) (bucket ∷ drop (suc i) xs) f.fallen);
      }

  -- with none at a place, all from there on is left
  pub stays_at : (xs : List Bucket) (i : ℕ) → if_fallen size second (slice_get xs i) ≡ None → left size second (drop i xs) ≡ drop i xs
  stays_at [] zero e = refl
  stays_at [] (suc i) e = refl
  stays_at (x ∷ xs) zero e = by_test (has_fallen size second x) refl e
    where
      by_test : (b : Bool) → has_fallen size second x ≡ b → cond b (Some x) None ≡ None → cond b (left size second xs) (x ∷ xs) ≡ x ∷ xs
      by_test true is e = let bad : ◌≡◌ {A = Option Bucket} (Some x) None = e in cc
      by_test false is e = refl
  stays_at (x ∷ xs) (suc i) e = stays_at xs i e

  left_part_head : (b : Bool) (x : Bucket) (xs : List Bucket) → IsPart (sum_of totals_of_bucket (left size second xs)) (sum_of totals_of_bucket xs) → IsPart (sum_of totals_of_bucket (cond b (left size second xs) (x ∷ xs))) (sum_of totals_of_bucket (x ∷ xs))
  left_part_head true x xs p = part_again _ _ _ p (rest_part totals_of_bucket x xs)
  left_part_head false x xs p = part_same (sum_of totals_of_bucket (x ∷ xs))

  -- what is left has no more than all
  pub left_part : (xs : List Bucket) → IsPart (sum_of totals_of_bucket (left size second xs)) (sum_of totals_of_bucket xs)
  left_part [] = part_same (sum_of totals_of_bucket [])
  left_part (x ∷ xs) = left_part_head (has_fallen size second x) x xs (left_part xs)

  left_all_head : (P : Bucket → Type 0) (b : Bool) (xs ys : List Bucket) → AllByRecursion P xs → AllByRecursion P ys → AllByRecursion P (cond b xs ys)
  left_all_head P true xs ys p q = p
  left_all_head P false xs ys p q = q

  pub left_all : (P : Bucket → Type 0) (xs : List Bucket) → AllByRecursion P xs → AllByRecursion P (left size second xs)
  left_all P [] all = all
  left_all P (x ∷ xs) all = left_all_head P (has_fallen size second x) (left size second xs) (x ∷ xs) (left_all P xs all.1) all
