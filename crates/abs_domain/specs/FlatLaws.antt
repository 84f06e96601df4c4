-- The laws of the flat domain.
use Rattle.std.proofs.Common.{◌≡◌, ℕ, ◌-◌, ◌%◌, ◌^◌, ◌<◌, ◌≤◌, ◌==◌, Bool, true, false, cond, arith, refl, sym, ap, ◌∙◌, subst}
use Rattle.std.proofs.lemmas.Bool.{eqb-true, eqb-false, eq-eqb}
use Rattle.std.proofs.lemmas.Nat.Bits.{bit_at-zero}
use Rattle.std.specs.Int.Bits.{and_zero_l, and_zero_r}
use Rattle.std.specs.Prelude.{bit_and}
use Rattle.bpf_profile.specs.Words.{IsWord}
use Rattle.bpf_profile.specs.declared.instruction.Size.{Size}
use Rattle.abs_domain.specs.OperationLaws.{operation_fits, shift_fits, conversion_fits}
use Rattle.abs_domain.specs.Agreement.{Agrees}
use Rattle.abs_domain.specs.AgreementLaws.{above}
use Rattle.abs_domain.specs.FlatTable.{FlatContains, flat_join, flat_operation, flat_shift, flat_conversion, flat_bounds, flat_bits, flat_low_zero, flat_first, flat_second}
use Rattle.abs_domain.specs.Operations.{word_operation, word_shift, word_conversion, Relates}
use Rattle.abs_domain.specs.declared.flat.Flat.{Flat}
use Rattle.abs_domain.specs.declared.flat.Flat.TheVariants as flat
use Rattle.abs_domain.specs.declared.operations.Binary.{Binary}
use Rattle.abs_domain.specs.declared.operations.Conversion.{Conversion}
use Rattle.abs_domain.specs.declared.operations.Relation.{Relation}
use Rattle.abs_domain.specs.declared.operations.Relation.TheVariants as relation
use Rattle.abs_domain.specs.declared.operations.Shift.{Shift}

pub contained : (a : Flat) (n : ℕ) → FlatContains a n → IsWord n
contained (flat.One a) n h = h.0
contained flat.Any n h = h

joined_first : (test : Bool) (a n : ℕ) → FlatContains (flat.One a) n → FlatContains (cond test (flat.One a) flat.Any) n
joined_first true a n h = h
joined_first false a n h = h.0

pub join_first : (a b : Flat) (n : ℕ) → FlatContains a n → FlatContains (flat_join a b) n
join_first (flat.One a) (flat.One b) n h = joined_first (a == b) a n h
join_first (flat.One a) flat.Any n h = h.0
join_first flat.Any b n h = h

symmetric : (a b : ℕ) (s t : Bool) → (a == b) ≡ s → (b == a) ≡ t → cond s (flat.One a) flat.Any ≡ cond t (flat.One b) flat.Any
symmetric a b true true p q = ap flat.One (eqb-true a b p)
symmetric a b true false p q = absurd (eqb-false b a q (sym (eqb-true a b p)))
symmetric a b false true p q = absurd (eqb-false a b p (sym (eqb-true b a q)))
symmetric a b false false p q = refl

pub join_symmetric : (a b : Flat) → flat_join a b ≡ flat_join b a
join_symmetric (flat.One a) (flat.One b) = symmetric a b (a == b) (b == a) refl refl
join_symmetric (flat.One a) flat.Any = refl
join_symmetric flat.Any (flat.One b) = refl
join_symmetric flat.Any flat.Any = refl

joined_second : (a b n : ℕ) (test : Bool) → (a == b) ≡ test → FlatContains (flat.One b) n → FlatContains (cond test (flat.One a) flat.Any) n
joined_second a b n true e h = (h.0, h.1 ∙ sym (eqb-true a b e))
joined_second a b n false e h = h.0

pub join_second : (a b : Flat) (n : ℕ) → FlatContains b n → FlatContains (flat_join a b) n
join_second (flat.One a) (flat.One b) n h = joined_second a b n (a == b) refl h
join_second (flat.One a) flat.Any n h = h
join_second flat.Any b n h = contained b n h

with_any : (a : Flat) → flat_join a flat.Any ≡ flat.Any
with_any (flat.One a) = refl
with_any flat.Any = refl

unequal : (a b : ℕ) (t : Bool) → (a == b) ≡ t → (a ≡ b → ⊥) → t ≡ false
unequal a b true e h = absurd (h (eqb-true a b e))
unequal a b false e h = refl

associative : (a b c : ℕ) (s t : Bool) → (a == b) ≡ s → (b == c) ≡ t → flat_join (cond s (flat.One a) flat.Any) (flat.One c) ≡ flat_join (flat.One a) (cond t (flat.One b) flat.Any)
associative a b c true true p q = ap (λ x. cond x (flat.One a) flat.Any) (eq-eqb a c (eqb-true a b p ∙ eqb-true b c q) ∙ sym p)
associative a b c true false p q = ap (λ x. cond x (flat.One a) flat.Any) (unequal a c (a == c) refl (λ e. eqb-false b c q (sym (eqb-true a b p) ∙ e)))
associative a b c false true p q = ap (λ x. cond x (flat.One a) flat.Any) (sym p)
associative a b c false false p q = refl

pub join_associative : (a b c : Flat) → flat_join (flat_join a b) c ≡ flat_join a (flat_join b c)
join_associative (flat.One a) (flat.One b) (flat.One c) = associative a b c (a == b) (b == c) refl refl
join_associative (flat.One a) (flat.One b) flat.Any = with_any (flat_join (flat.One a) (flat.One b))
join_associative (flat.One a) flat.Any c = refl
join_associative flat.Any b c = refl

pub operated : (operation : Binary) (a b : Flat) (n m : ℕ) → FlatContains a n → FlatContains b m → FlatContains (flat_operation operation a b) (word_operation operation n m)
operated operation (flat.One a) (flat.One b) n m h k = (operation_fits operation n m, rw h.1 (rw k.1 refl))
operated operation (flat.One a) flat.Any n m h k = operation_fits operation n m
operated operation flat.Any b n m h k = operation_fits operation n m

pub shifted : (shift : Shift) (a : Flat) (count n : ℕ) → count < 64 → FlatContains a n → FlatContains (flat_shift shift a count) (word_shift shift n count)
shifted shift (flat.One a) count n small h = (shift_fits shift n count, rw h.1 refl)
shifted shift flat.Any count n small h = shift_fits shift n count

pub resized : (conversion : Conversion) (size : Size) (a : Flat) (n : ℕ) → FlatContains a n → FlatContains (flat_conversion conversion size a) (word_conversion conversion size n)
resized conversion size (flat.One a) n h = (conversion_fits conversion size n, rw h.1 refl)
resized conversion size flat.Any n h = conversion_fits conversion size n

pub bounds_hold : (a : Flat) (n : ℕ) → FlatContains a n → ((flat_bounds a).low ≤ n) × (n ≤ (flat_bounds a).high)
bounds_hold (flat.One a) n h = let e = h.1 in (omega arith, omega arith)
bounds_hold flat.Any n h = (omega arith, omega arith)

pub bits_apart : (a : Flat) (n : ℕ) → FlatContains a n → bit_and (flat_bits a).value (flat_bits a).unknown ≡ 0
bits_apart (flat.One a) n h = and_zero_r a
bits_apart flat.Any n h = and_zero_l (2 ^ 64 - 1)

pub bits_hold : (a : Flat) (n : ℕ) → FlatContains a n → Agrees (flat_bits a).value (flat_bits a).unknown n
bits_hold (flat.One a) n h = (h.0, λ i clear. rw h.1 refl)
bits_hold flat.Any n h = (h, λ i clear. above n i h clear ∙ sym (bit_at-zero i))

not_true : false ≡ true → ⊥
not_true e = subst (λ b. cond b ⊥ (Unit {0})) e tt

pub low_zeros_hold : (a : Flat) (count n : ℕ) → count < 64 → flat_low_zero a count ≡ true → FlatContains a n → n % 2 ^ count ≡ 0
low_zeros_hold (flat.One a) count n small zeros h = rw h.1 (eqb-true (a % 2 ^ count) 0 zeros)
low_zeros_hold flat.Any count n small zeros h = absurd (not_true zeros)

pub first_kept : (relation : Relation) (a b : Flat) (n m : ℕ) → FlatContains a n → FlatContains b m → Relates relation n m → FlatContains (flat_first relation a b) n
first_kept relation.Equal flat.Any b n m h k e = subst (λ x. FlatContains b x) (sym e) k
first_kept relation.Equal (flat.One a) b n m h k e = h
first_kept relation.NotEqual a b n m h k e = h
first_kept relation.Greater a b n m h k e = h
first_kept relation.GreaterOrEqual a b n m h k e = h
first_kept relation.Disjoint a b n m h k e = h
first_kept relation.Overlapping a b n m h k e = h

pub second_kept : (relation : Relation) (a b : Flat) (n m : ℕ) → FlatContains a n → FlatContains b m → Relates relation n m → FlatContains (flat_second relation a b) m
second_kept relation.Equal a flat.Any n m h k e = subst (λ x. FlatContains a x) e h
second_kept relation.Equal a (flat.One b) n m h k e = k
second_kept relation.NotEqual a b n m h k e = k
second_kept relation.Greater a b n m h k e = k
second_kept relation.GreaterOrEqual a b n m h k e = k
second_kept relation.Disjoint a b n m h k e = k
second_kept relation.Overlapping a b n m h k e = k
