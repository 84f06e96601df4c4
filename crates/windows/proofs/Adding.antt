-- Sums of totals.
use Rattle.std.proofs.Common.{◌≡◌, ℕ, ◌+◌, ◌≤◌, Bool, true, false, List, [], ◌∷◌, ◌++◌, length, map, arith, refl, ap, sym, ◌∙◌}
use Rattle.std.specs.List.{sum_by}
use Rattle.std.proofs.lemmas.List.Sums.{sum_by-cons, sum_by_push, length-filter}
use Rattle.service_profile.specs.declared.notes.Note.{Note}
use Rattle.service_profile.specs.declared.notes.Totals.{Totals}
use Rattle.service_profile.specs.Windows.{totals_of}
use Rattle.service_profile.specs.RunningTotals.{one_where, AreTotals}
use Rattle.windows.specs.Sums.{plus, minus, no_totals, one_note, sum_of, IsPart}

pub same_totals : (a b : Totals) → a.total ≡ b.total → a.failed ≡ b.failed → a.slow ≡ b.slow → a ≡ b
same_totals a b p q r = λ i. record { total = p i; failed = q i; slow = r i }

pub plus_nothing : (a : Totals) → plus a no_totals ≡ a
plus_nothing a = same_totals (plus a no_totals) a (omega arith) (omega arith) (omega arith)

pub plus_assoc : (a b c : Totals) → plus (plus a b) c ≡ plus a (plus b c)
plus_assoc a b c = same_totals (plus (plus a b) c) (plus a (plus b c)) (omega arith) (omega arith) (omega arith)

pub minus_plus : (a b : Totals) → minus (plus a b) a ≡ b
minus_plus a b = same_totals (minus (plus a b) a) b (omega arith) (omega arith) (omega arith)

pub part_of_plus : (a b : Totals) → IsPart a (plus a b)
part_of_plus a b = record { total = omega arith; failed = omega arith; slow = omega arith }

pub last_part : (a b : Totals) → IsPart b (plus a b)
last_part a b = record { total = omega arith; failed = omega arith; slow = omega arith }

pub part_again : (a b c : Totals) → IsPart a b → IsPart b c → IsPart a c
part_again a b c p q = record { total = omega (arith, p.total, q.total); failed = omega (arith, p.failed, q.failed); slow = omega (arith, p.slow, q.slow) }

pub part_same : (a : Totals) → IsPart a a
part_same a = record { total = omega arith; failed = omega arith; slow = omega arith }

-- a part with as much more is within what the whole with it is within
pub part_fits : (most : ℕ) (part whole more : Totals) → IsPart part whole → AreTotals most (plus whole more) → AreTotals most (plus part more)
part_fits most part whole more p fits = record { total = omega (arith, p.total, fits.total); failed = omega (arith, p.failed, fits.failed); slow = omega (arith, p.slow, fits.slow) }

pub one_more_fits : (most : ℕ) (totals : Totals) (failed slow : Bool) → AreTotals most totals → AreTotals (most + 1) (plus totals (one_note failed slow))
one_more_fits most totals failed slow fits = record {
  total = omega (arith, fits.total);
  failed = one_more failed totals.failed fits.failed;
  slow = one_more slow totals.slow fits.slow;
}
  where
    one_more : (b : Bool) (n : ℕ) → n ≤ most → n + one_where b ≤ most + 1
    one_more true n h = omega arith
    one_more false n h = omega arith

module _ {X : Type 0} (f : X → Totals) where
  pub sum_cons : (x : X) (xs : List X) → sum_of f (x ∷ xs) ≡ plus (f x) (sum_of f xs)
  sum_cons x xs = same_totals (sum_of f (x ∷ xs)) (plus (f x) (sum_of f xs)) (sum_by-cons (λ y. (f y).total) x xs) (sum_by-cons (λ y. (f y).failed) x xs) (sum_by-cons (λ y. (f y).slow) x xs)

  pub sum_push : (xs : List X) (x : X) → sum_of f (xs ++ x ∷ []) ≡ plus (sum_of f xs) (f x)
  sum_push xs x = same_totals (sum_of f (xs ++ x ∷ [])) (plus (sum_of f xs) (f x)) (sum_by_push (λ y. (f y).total) xs x) (sum_by_push (λ y. (f y).failed) xs x) (sum_by_push (λ y. (f y).slow) xs x)

  -- the first element leaves
  pub sum_without_first : (x : X) (xs : List X) → minus (sum_of f (x ∷ xs)) (f x) ≡ sum_of f xs
  sum_without_first x xs = ap (λ (t : Totals). minus t (f x)) (sum_cons x xs) ∙ minus_plus (f x) (sum_of f xs)

  pub first_part : (x : X) (xs : List X) → IsPart (f x) (sum_of f (x ∷ xs))
  first_part x xs = rw (sum_cons x xs) (part_of_plus (f x) (sum_of f xs))

  pub rest_part : (x : X) (xs : List X) → IsPart (sum_of f xs) (sum_of f (x ∷ xs))
  rest_part x xs = rw (sum_cons x xs) (last_part (f x) (sum_of f xs))

pub sum_map : {X Y : Type 0} (f : Y → Totals) (g : X → Y) (xs : List X) → sum_of f (map g xs) ≡ sum_of (λ x. f (g x)) xs
sum_map f g [] = refl
sum_map f g (x ∷ xs) = sum_cons f (g x) (map g xs) ∙ ap (λ (t : Totals). plus (f (g x)) t) (sum_map f g xs) ∙ sym (sum_cons (λ y. f (g y)) x xs)

pub length_is_sum : {X : Type 0} (xs : List X) → length xs ≡ sum_by (λ x. 1) xs
length_is_sum [] = refl
length_is_sum (x ∷ xs) = omega (arith, length_is_sum xs, sum_by-cons (λ y. 1) x xs)

pub totals_are_sums : (notes : List Note) → totals_of notes ≡ sum_of (λ note. one_note note.failed note.slow) notes
totals_are_sums notes = same_totals (totals_of notes) (sum_of (λ note. one_note note.failed note.slow) notes) (length_is_sum notes) (length-filter (λ note. note.failed) notes) (length-filter (λ note. note.slow) notes)

-- no count is greater than the total, in a sum too
pub plus_counted : (a b : Totals) → AreTotals a.total a → AreTotals b.total b → AreTotals (plus a b).total (plus a b)
plus_counted a b p q = record { total = omega arith; failed = omega (arith, p.failed, q.failed); slow = omega (arith, p.slow, q.slow) }

pub one_counted : (failed slow : Bool) → AreTotals 1 (one_note failed slow)
one_counted true true = record { total = omega arith; failed = omega arith; slow = omega arith }
one_counted true false = record { total = omega arith; failed = omega arith; slow = omega arith }
one_counted false true = record { total = omega arith; failed = omega arith; slow = omega arith }
one_counted false false = record { total = omega arith; failed = omega arith; slow = omega arith }
