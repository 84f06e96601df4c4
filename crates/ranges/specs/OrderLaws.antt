-- Joins, bounds, known bits, and what comparisons tell.
use Rattle.std.proofs.Common.{◌≡◌, ◌≢◌, ℕ, ◌-◌, ◌%◌, ◌^◌, ◌<◌, ◌≤◌, ◌==◌, ◌&&◌, min, max, true, arith, sym, ap, ◌∙◌, subst}
use Rattle.std.proofs.lemmas.Bool.{eqb-true, cond_both, and_parts}
use Rattle.std.proofs.lemmas.Nat.Bits.{bit_at-zero}
use Rattle.std.specs.Int.{bit_at}
use Rattle.std.specs.Int.Bits.{and_zero_l, and_zero_r}
use Rattle.std.specs.Prelude.{nat_lt, nat_le, bit_and}
use Rattle.bpf_profile.specs.Words.{IsWord}
use Rattle.abs_domain.specs.Agreement.{Agrees}
use Rattle.abs_domain.specs.AgreementLaws.{above}
use Rattle.abs_domain.specs.Operations.{Relates}
use Rattle.abs_domain.specs.declared.operations.Bits.{Bits}
use Rattle.abs_domain.specs.declared.operations.Bounds.{Bounds}
use Rattle.abs_domain.specs.declared.operations.Relation.{Relation}
use Rattle.abs_domain.specs.declared.operations.Relation.TheVariants as relation
use Rattle.ranges.specs.RangeTable.{RangeContains, between, range_join, range_bits, range_low_zero, range_common, range_without, range_parted, range_above, range_below, range_at_least, range_at_most, range_first, range_second}

pub contained : (a : Bounds) (n : ℕ) → RangeContains a n → IsWord n
contained a n h = h.0

pub word_contained : (n : ℕ) → IsWord n → RangeContains (between n n) n
word_contained n h = (h, omega arith, omega arith)

-- ---- joins

pub join_first : (a b : Bounds) (n : ℕ) → RangeContains a n → RangeContains (range_join a b) n
join_first a b n h = (h.0, omega (arith, h.1), omega (arith, h.2))

pub join_second : (a b : Bounds) (n : ℕ) → RangeContains b n → RangeContains (range_join a b) n
join_second a b n h = (h.0, omega (arith, h.1), omega (arith, h.2))

same_bounds : (l m h k : ℕ) → l ≡ m → h ≡ k → between l h ≡ between m k
same_bounds l m h k p q = ap (λ x. between x h) p ∙ ap (between m) q

pub join_symmetric : (a b : Bounds) → range_join a b ≡ range_join b a
join_symmetric a b = same_bounds (min a.low b.low) (min b.low a.low) (max a.high b.high) (max b.high a.high) (omega arith) (omega arith)

pub join_associative : (a b c : Bounds) → range_join (range_join a b) c ≡ range_join a (range_join b c)
join_associative a b c =
    same_bounds (min (min a.low b.low) c.low) (min a.low (min b.low c.low)) (max (max a.high b.high) c.high) (max a.high (max b.high c.high)) (omega arith) (omega arith)

-- ---- bounds and bits

pub bounds_hold : (a : Bounds) (n : ℕ) → RangeContains a n → (a.low ≤ n) × (n ≤ a.high)
bounds_hold a n h = (h.1, h.2)

pub bits_apart : (a : Bounds) (n : ℕ) → RangeContains a n → bit_and (range_bits a).value (range_bits a).unknown ≡ 0
bits_apart a n h = cond_both (a.low == a.high) _ _ (λ (b : Bits). bit_and b.value b.unknown ≡ 0) (λ e. and_zero_r a.low) (λ e. and_zero_l (2 ^ 64 - 1))

pub bits_hold : (a : Bounds) (n : ℕ) → RangeContains a n → Agrees (range_bits a).value (range_bits a).unknown n
bits_hold a n h =
    cond_both (a.low == a.high) _ _ (λ (b : Bits). Agrees b.value b.unknown n)
    (λ e. (h.0, λ i clear. ap (λ x. bit_at x i) (only n a.low a.high (eqb-true a.low a.high e) h.1 h.2)))
    (λ e. (h.0, λ i clear. above n i h.0 clear ∙ sym (bit_at-zero i)))
  where
    only : (n low high : ℕ) → low ≡ high → low ≤ n → n ≤ high → n ≡ low
    only n low high e p q = omega arith

pub low_zeros_hold : (a : Bounds) (count n : ℕ) → count < 64 → range_low_zero a count ≡ true → RangeContains a n → n % 2 ^ count ≡ 0
low_zeros_hold a count n small zeros h =
    let both = and_parts (a.low == a.high) (a.low % 2 ^ count == 0) zeros in
    let one = eqb-true a.low a.high both.0 in
    let same : n ≡ a.low = omega (arith, one, h.1, h.2) in
    ap (λ x. x % 2 ^ count) same ∙ eqb-true (a.low % 2 ^ count) 0 both.1

-- ---- what comparisons tell

common_kept : (a b : Bounds) (n : ℕ) → RangeContains a n → RangeContains b n → RangeContains (range_common a b) n
common_kept a b n h k =
    cond_both (nat_le (max a.low b.low) (min a.high b.high)) _ _ (λ r. RangeContains r n)
    (λ e. (h.0, omega (arith, h.1, k.1), omega (arith, h.2, k.2))) (λ e. h)

without_kept : (a : Bounds) (n word : ℕ) → RangeContains a n → n ≢ word → RangeContains (range_without a word) n
without_kept a n word h differ =
    cond_both (a.low == word) _ _ (λ r. RangeContains r n)
    (λ e. (h.0, omega (arith, eqb-true a.low word e, differ, h.1), h.2))
    (λ e. cond_both (a.high == word) _ _ (λ r. RangeContains r n)
    (λ f. (h.0, h.1, omega (arith, eqb-true a.high word f, differ, h.2)))
    (λ f. h))

parted_kept : (a b : Bounds) (n m : ℕ) → RangeContains a n → RangeContains b m → n ≢ m → RangeContains (range_parted a b) n
parted_kept a b n m h k differ =
    cond_both ((b.low == b.high) && nat_lt a.low a.high) _ _ (λ r. RangeContains r n)
    (λ e. let both = and_parts (b.low == b.high) (nat_lt a.low a.high) e in
    without_kept a n b.low h (λ same. differ (omega (arith, eqb-true b.low b.high both.0, same, k.1, k.2))))
    (λ e. h)

above_kept : (a b : Bounds) (n m : ℕ) → RangeContains a n → RangeContains b m → m < n → RangeContains (range_above a b) n
above_kept a b n m h k greater =
    cond_both (nat_lt b.low a.high) _ _ (λ r. RangeContains r n) (λ e. (h.0, omega (arith, h.1, k.1), h.2)) (λ e. h)

below_kept : (a b : Bounds) (n m : ℕ) → RangeContains a n → RangeContains b m → n < m → RangeContains (range_below a b) n
below_kept a b n m h k less =
    cond_both (nat_lt a.low b.high) _ _ (λ r. RangeContains r n) (λ e. (h.0, h.1, omega (arith, h.2, k.2))) (λ e. h)

at_least_kept : (a b : Bounds) (n m : ℕ) → RangeContains a n → RangeContains b m → m ≤ n → RangeContains (range_at_least a b) n
at_least_kept a b n m h k greater =
    cond_both (nat_le b.low a.high) _ _ (λ r. RangeContains r n) (λ e. (h.0, omega (arith, h.1, k.1), h.2)) (λ e. h)

at_most_kept : (a b : Bounds) (n m : ℕ) → RangeContains a n → RangeContains b m → n ≤ m → RangeContains (range_at_most a b) n
at_most_kept a b n m h k less =
    cond_both (nat_le a.low b.high) _ _ (λ r. RangeContains r n) (λ e. (h.0, h.1, omega (arith, h.2, k.2))) (λ e. h)

pub first_kept : (relation : Relation) (a b : Bounds) (n m : ℕ) → RangeContains a n → RangeContains b m → Relates relation n m → RangeContains (range_first relation a b) n
first_kept relation.Equal a b n m h k e = common_kept a b n h (subst (RangeContains b) (sym e) k)
first_kept relation.NotEqual a b n m h k e = parted_kept a b n m h k e
first_kept relation.Greater a b n m h k e = above_kept a b n m h k e
first_kept relation.GreaterOrEqual a b n m h k e = at_least_kept a b n m h k e
first_kept relation.Disjoint a b n m h k e = h
first_kept relation.Overlapping a b n m h k e = h

pub second_kept : (relation : Relation) (a b : Bounds) (n m : ℕ) → RangeContains a n → RangeContains b m → Relates relation n m → RangeContains (range_second relation a b) m
second_kept relation.Equal a b n m h k e = common_kept b a m k (subst (RangeContains a) e h)
second_kept relation.NotEqual a b n m h k e = parted_kept b a m n k h (λ same. e (sym same))
second_kept relation.Greater a b n m h k e = below_kept b a m n k h e
second_kept relation.GreaterOrEqual a b n m h k e = at_most_kept b a m n k h e
second_kept relation.Disjoint a b n m h k e = k
second_kept relation.Overlapping a b n m h k e = k
