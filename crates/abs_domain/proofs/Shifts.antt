-- What shifts by a masked count make of words and of halves.
use Rattle.std.proofs.Common.{◌≡◌, ℕ, ◌*◌, ◌/◌, ◌%◌, ◌^◌, arith, sym, ap, ◌∙◌}
use Rattle.std.proofs.Math.Nat.{mod-eq_of_lt}
use Rattle.std.specs.Int.{int_shr}
use Rattle.bpf_profile.proofs.Results.{arithmetic_fits}
use Rattle.bpf_profile.specs.Words.{low, signed, word_of, sign_extended, arithmetic}
use Rattle.bpf_profile.specs.declared.instruction.Operation.TheVariants as operation
use Rattle.bpf_profile.specs.declared.instruction.Width.TheVariants as width
use Rattle.abs_domain.proofs.Halves.{half_wide, half_of_low}
use Rattle.abs_domain.proofs.Signed.{signed_extended, signed_half}
use Rattle.abs_domain.specs.Operations.{shift_operation, word_shift}
use Rattle.abs_domain.specs.declared.operations.Shift.{Shift}
use Rattle.abs_domain.specs.declared.operations.Shift.TheVariants as shift

count64 : (m : ℕ) → low 64 (m % 64) % 64 ≡ low 64 m % 64
count64 m = omega arith

count32 : (m : ℕ) → low 64 (m % 32) % 64 ≡ m % 32
count32 m = omega arith

pub shift_by_count : (shift : Shift) (n m : ℕ) → word_shift shift n (m % 64) ≡ arithmetic (shift_operation shift) width.Bits64 n m
shift_by_count shift.Left n m = ap (λ k. low 64 (low 64 n * 2 ^ k)) (count64 m)
shift_by_count shift.Right n m = ap (λ k. low 64 n / 2 ^ k) (count64 m)
shift_by_count shift.ArithmeticRight n m = ap (λ k. low 64 (word_of (int_shr (signed 64 (low 64 n)) k))) (count64 m)

pub half_left : (n m : ℕ) → low 32 (word_shift shift.Left (low 32 n) (low 32 m % 32)) ≡ arithmetic operation.ShiftLeft width.Bits32 n m
half_left n m = half_of_low (low 64 (low 32 n) * 2 ^ (low 64 (low 32 m % 32) % 64)) ∙ (λ i. low 32 (half_wide n i * 2 ^ count32 (low 32 m) i))

pub half_right : (n m : ℕ) → low 32 (word_shift shift.Right (low 32 n) (low 32 m % 32)) ≡ arithmetic operation.ShiftRight width.Bits32 n m
half_right n m = (λ i. low 32 (half_wide n i / 2 ^ count32 (low 32 m) i)) ∙ mod-eq_of_lt (arithmetic_fits operation.ShiftRight width.Bits32 n m)

pub half_arithmetic_right : (n m : ℕ) → low 32 (word_shift shift.ArithmeticRight (sign_extended 32 n) (low 32 m % 32)) ≡ arithmetic operation.ArithmeticShiftRight width.Bits32 n m
half_arithmetic_right n m =
    half_of_low (word_of (int_shr (signed 64 (low 64 (sign_extended 32 n))) (low 64 (low 32 m % 32) % 64)))
    ∙ (λ i. low 32 (word_of (int_shr (signed_extended n i) (count32 (low 32 m) i))))
    ∙ (λ i. low 32 (word_of (int_shr (sym (signed_half n) i) (low 32 m % 32))))
