-- Shifts and conversions of contained words are contained.
use Rattle.std.proofs.Common.{◌≡◌, ℕ, ℤ, suc, pos, negsuc, ◌-◌, ◌*◌, ◌/◌, ◌%◌, ◌^◌, ◌<◌, ◌≤◌, arith, sym, ap, ◌∙◌, subst}
use Rattle.std.proofs.Math.Nat.{mod-eq_of_lt, div-le_self}
use Rattle.std.proofs.lemmas.Bool.{ltb-true, leb-true, cond_both}
use Rattle.std.proofs.lemmas.Nat.{mul-le, pow_pos}
use Rattle.std.specs.Int.{int_shr}
use Rattle.std.specs.Prelude.{nat_lt, nat_le}
use Rattle.bpf_profile.specs.Words.{IsWord, low, signed, word_of}
use Rattle.abs_domain.specs.OperationLaws.{shift_fits}
use Rattle.abs_domain.specs.Operations.{word_shift}
use Rattle.abs_domain.specs.declared.operations.Bounds.{Bounds}
use Rattle.abs_domain.specs.declared.operations.Shift.{Shift}
use Rattle.abs_domain.specs.declared.operations.Shift.TheVariants as shift
use Rattle.ranges.specs.NumberLaws.{quotient_grows, word_is, signed_small, signed_large}
use Rattle.ranges.specs.RangeTable.{RangeContains, last_word, range_shift_left, range_shift_right, range_arithmetic_shift_right, range_shift}
use Rattle.ranges.specs.SumLaws.{is_any}

-- a shift of a word by a count below 64 takes both as they are
left_is : (n count : ℕ) → IsWord n → count < 64 → word_shift shift.Left n count ≡ (n * 2 ^ count) % 2 ^ 64
left_is n count h small =
    let c : low 64 count % 64 ≡ count = omega arith in
    ap (λ x. low 64 (x * 2 ^ (low 64 count % 64))) (word_is n h) ∙ ap (λ x. low 64 (n * 2 ^ x)) c

right_is : (n count : ℕ) → IsWord n → count < 64 → word_shift shift.Right n count ≡ n / 2 ^ count
right_is n count h small =
    let c : low 64 count % 64 ≡ count = omega arith in
    ap (λ x. x / 2 ^ (low 64 count % 64)) (word_is n h) ∙ ap (λ x. n / 2 ^ x) c

arithmetic_by : (z : ℤ) (n count : ℕ) → IsWord n → count < 64 → signed 64 n ≡ z → word_shift shift.ArithmeticRight n count ≡ low 64 (word_of (int_shr z count))
arithmetic_by z n count h small e =
    let c : low 64 count % 64 ≡ count = omega arith in
    ap (λ x. low 64 (word_of (int_shr (signed 64 x) (low 64 count % 64)))) (word_is n h)
    ∙ ap (λ x. low 64 (word_of (int_shr (signed 64 n) x))) c
    ∙ ap (λ (y : ℤ). low 64 (word_of (int_shr y count))) e

-- without a sign, an arithmetic shift is a shift
arithmetic_small : (n count : ℕ) → n < 2 ^ 63 → count < 64 → word_shift shift.ArithmeticRight n count ≡ n / 2 ^ count
arithmetic_small n count h small = arithmetic_by (pos n) n count (omega arith) small (signed_small n h) ∙ word_is (n / 2 ^ count) (omega (arith, div-le_self n (2 ^ count)))

-- with a sign, what is missing to 2^64 - 1 is shifted
arithmetic_large : (n count : ℕ) → IsWord n → 2 ^ 63 ≤ n → count < 64 → word_shift shift.ArithmeticRight n count ≡ 2 ^ 64 - suc ((2 ^ 64 - suc n) / 2 ^ count)
arithmetic_large n count h k small = arithmetic_by (negsuc (2 ^ 64 - suc n)) n count h small (signed_large n h k) ∙ word_is _ (omega arith)

-- words with a sign keep their order
pub arithmetic_grows : (n m count : ℕ) → IsWord m → 2 ^ 63 ≤ n → n ≤ m → count < 64 → word_shift shift.ArithmeticRight n count ≤ word_shift shift.ArithmeticRight m count
arithmetic_grows n m count h k l small =
    let less = quotient_grows (2 ^ 64 - suc m) (2 ^ 64 - suc n) (2 ^ count) (2 ^ count) (omega arith) (pow_pos count) (omega arith) in
    rw (arithmetic_large n count (omega arith) k small, arithmetic_large m count h (omega arith) small) (omega (arith, less))

left_whole : (al ah n power : ℕ) → ah * power < 2 ^ 64 → al ≤ n → n ≤ ah → (al * power ≤ (n * power) % 2 ^ 64) × ((n * power) % 2 ^ 64 ≤ ah * power)
left_whole al ah n power small p q =
    let greater = mul-le n power ah power q (omega arith) in
    let lesser = mul-le al power n power p (omega arith) in
    let e : (n * power) % 2 ^ 64 ≡ n * power = mod-eq_of_lt (omega arith) in
    (rw e lesser, rw e greater)

left_kept : (a : Bounds) (count n : ℕ) → count < 64 → RangeContains a n → RangeContains (range_shift_left a count) (word_shift shift.Left n count)
left_kept a count n small h =
    cond_both (nat_lt (a.high * 2 ^ count) (2 ^ 64)) _ _ (λ r. RangeContains r (word_shift shift.Left n count))
    (λ e. let both = left_whole a.low a.high n (2 ^ count) (ltb-true _ _ e) h.1 h.2 in let same = left_is n count h.0 small in
    (shift_fits shift.Left n count, subst (λ x. a.low * 2 ^ count ≤ x) (sym same) both.0, subst (λ x. x ≤ a.high * 2 ^ count) (sym same) both.1))
    (λ e. is_any _ (shift_fits shift.Left n count))

right_whole : (a : Bounds) (count n : ℕ) → RangeContains a n → RangeContains (range_shift_right a count) (n / 2 ^ count)
right_whole a count n h = (
  omega (arith, div-le_self n (2 ^ count), h.0),
  quotient_grows a.low n (2 ^ count) (2 ^ count) h.1 (pow_pos count) (omega arith),
  quotient_grows n a.high (2 ^ count) (2 ^ count) h.2 (pow_pos count) (omega arith),
)

right_kept : (a : Bounds) (count n : ℕ) → count < 64 → RangeContains a n → RangeContains (range_shift_right a count) (word_shift shift.Right n count)
right_kept a count n small h = subst (RangeContains (range_shift_right a count)) (sym (right_is n count h.0 small)) (right_whole a count n h)

arithmetic_kept : (a : Bounds) (count n : ℕ) → count < 64 → RangeContains a n → RangeContains (range_arithmetic_shift_right a count) (word_shift shift.ArithmeticRight n count)
arithmetic_kept a count n small h =
    let P : Bounds → Type 0 = λ r. RangeContains r (word_shift shift.ArithmeticRight n count) in
    cond_both (nat_lt a.high (2 ^ 63)) _ _ P
    (λ e. subst (RangeContains (range_shift_right a count)) (sym (arithmetic_small n count (omega (arith, ltb-true _ _ e, h.2)) small)) (right_whole a count n h))
    (λ e. cond_both (nat_le (2 ^ 63) a.low) _ _ P
    (λ f. (
      shift_fits shift.ArithmeticRight n count,
      arithmetic_grows a.low n count h.0 (leb-true _ _ f) h.1 small,
      arithmetic_grows n (last_word a) count (omega arith) (omega (arith, leb-true _ _ f, h.1)) (omega (arith, h.2, h.0)) small,
    ))
    (λ f. is_any _ (shift_fits shift.ArithmeticRight n count)))

pub shift_kept : (shift : Shift) (a : Bounds) (count n : ℕ) → count < 64 → RangeContains a n → RangeContains (range_shift shift a count) (word_shift shift n count)
shift_kept shift.Left a count n small h = left_kept a count n small h
shift_kept shift.Right a count n small h = right_kept a count n small h
shift_kept shift.ArithmeticRight a count n small h = arithmetic_kept a count n small h
