-- What the arithmetic makes of contained words is contained.
use Rattle.std.proofs.Common.{◌≡◌, ℕ, suc, pos, negsuc, ◌-◌, ◌%◌, ◌^◌, ◌<◌, ◌≤◌, ◌==◌, Bool, true, false, cond, arith, refl, sym, ap, ◌∙◌, subst}
use Rattle.std.proofs.Math.Nat.{mod-eq_of_lt}
use Rattle.std.proofs.lemmas.Bool.{eqb-true}
use Rattle.std.proofs.lemmas.Nat.{pow_pos, mod_below}
use Rattle.std.specs.Prelude.{nat_lt}
use lib.Pow.{mod-mod-pow}
use Rattle.bpf_profile.proofs.Results.{arithmetic_fits}
use Rattle.bpf_profile.specs.Words.{IsWord, low, word_of, sign_extended, arithmetic, negation, moved_signed, converted, bits_in}
use Rattle.bpf_profile.specs.declared.instruction.ByteOrder.{ByteOrder}
use Rattle.bpf_profile.specs.declared.instruction.ByteOrder.TheVariants as order
use Rattle.bpf_profile.specs.declared.instruction.Operation.{Operation}
use Rattle.bpf_profile.specs.declared.instruction.Operation.TheVariants as operation
use Rattle.bpf_profile.specs.declared.instruction.Size.{Size}
use Rattle.bpf_profile.specs.declared.instruction.Size.TheVariants as size
use Rattle.bpf_profile.specs.declared.instruction.Width.{Width}
use Rattle.bpf_profile.specs.declared.instruction.Width.TheVariants as width
use Rattle.abs_domain.proofs.Halves.{half_sum, half_difference, half_product, half_quotient, half_remainder, half_and, half_or, half_xor, half_half, half_of_low}
use Rattle.abs_domain.proofs.Shifts.{shift_by_count, half_left, half_right, half_arithmetic_right}
use Rattle.abs_domain.proofs.Signed.{half_signed_quotient, half_signed_remainder}
use Rattle.abs_domain.specs.Arithmetic.{low_half, signed_half, binary_in, signed_binary_in, shifted_by, shift_in, move_in, arithmetic_in, negation_in, signed_move_in, byte_order_in}
use Rattle.abs_domain.specs.OperationLaws.{sign_extension_fits}
use Rattle.abs_domain.specs.Operations.{binary_operation, shift_operation, word_operation, word_shift, word_conversion}
use Rattle.abs_domain.specs.declared.domain.Domain.{Ghosts}
use Rattle.abs_domain.specs.declared.operations.Binary.{Binary}
use Rattle.abs_domain.specs.declared.operations.Binary.TheVariants as binary
use Rattle.abs_domain.specs.declared.operations.Conversion.{Conversion}
use Rattle.abs_domain.specs.declared.operations.Conversion.TheVariants as conversion
use Rattle.abs_domain.specs.declared.operations.Shift.{Shift}
use Rattle.abs_domain.specs.declared.operations.Shift.TheVariants as shift

-- the laws of a domain that are used here
pub record Sound {X : Type 0} (domain : Ghosts X) : Type 0 where
  pub words : (a : X) (n : ℕ) → domain.contains a n → IsWord n
  pub constants : (n : ℕ) → IsWord n → domain.contains (domain.of_word n) n
  pub any : (n : ℕ) → IsWord n → domain.contains domain.of_any n
  pub operations : (operation : Binary) (a b : X) (n m : ℕ) → domain.contains a n → domain.contains b m → domain.contains (domain.computed operation a b) (word_operation operation n m)
  pub shifts : (shift : Shift) (a : X) (count n : ℕ) → count < 64 → domain.contains a n → domain.contains (domain.shifted shift a count) (word_shift shift n count)
  pub conversions : (conversion : Conversion) (size : Size) (a : X) (n : ℕ) → domain.contains a n → domain.contains (domain.converted conversion size a) (word_conversion conversion size n)
  pub bounds : (a : X) (n : ℕ) → domain.contains a n → ((domain.bounds_of a).low ≤ n) × (n ≤ (domain.bounds_of a).high)

low_half_kept : {X : Type 0} (domain : Ghosts X) → Sound domain → (a : X) (n : ℕ) → domain.contains a n → domain.contains (low_half domain a) (low 32 n)
low_half_kept domain sound a n h = sound.conversions conversion.Low size.Word a n h

signed_half_kept : {X : Type 0} (domain : Ghosts X) → Sound domain → (a : X) (n : ℕ) → domain.contains a n → domain.contains (signed_half domain a) (sign_extended 32 n)
signed_half_kept domain sound a n h = sound.conversions conversion.SignExtended size.Word a n h

binary_kept : {X : Type 0} (domain : Ghosts X) → Sound domain → (operation : Binary) (w : Width) (a b : X) (n m : ℕ)
    → low 32 (word_operation operation (low 32 n) (low 32 m)) ≡ arithmetic (binary_operation operation) width.Bits32 n m
    → domain.contains a n → domain.contains b m → domain.contains (binary_in domain w operation a b) (arithmetic (binary_operation operation) w n m)
binary_kept domain sound operation width.Bits64 a b n m e h k = sound.operations operation a b n m h k
binary_kept domain sound operation width.Bits32 a b n m e h k =
    subst (domain.contains (binary_in domain width.Bits32 operation a b)) e
    (low_half_kept domain sound _ _ (sound.operations operation (low_half domain a) (low_half domain b) (low 32 n) (low 32 m) (low_half_kept domain sound a n h) (low_half_kept domain sound b m k)))

signed_binary_kept : {X : Type 0} (domain : Ghosts X) → Sound domain → (operation : Binary) (w : Width) (a b : X) (n m : ℕ)
    → low 32 (word_operation operation (sign_extended 32 n) (sign_extended 32 m)) ≡ arithmetic (binary_operation operation) width.Bits32 n m
    → domain.contains a n → domain.contains b m → domain.contains (signed_binary_in domain w operation a b) (arithmetic (binary_operation operation) w n m)
signed_binary_kept domain sound operation width.Bits64 a b n m e h k = sound.operations operation a b n m h k
signed_binary_kept domain sound operation width.Bits32 a b n m e h k =
    subst (domain.contains (signed_binary_in domain width.Bits32 operation a b)) e
    (low_half_kept domain sound _ _ (sound.operations operation (signed_half domain a) (signed_half domain b) (sign_extended 32 n) (sign_extended 32 m) (signed_half_kept domain sound a n h) (signed_half_kept domain sound b m k)))

-- where the bounds are equal, they are the word
counted : {X : Type 0} (domain : Ghosts X) → Sound domain → (shift : Shift) (bits : ℕ) → 0 < bits → bits ≤ 64 → (a b : X) (n m : ℕ) → (test : Bool)
    → ((domain.bounds_of b).low == (domain.bounds_of b).high) ≡ test → domain.contains a n → domain.contains b m
    → domain.contains (cond test (domain.shifted shift a ((domain.bounds_of b).low % bits)) domain.of_any) (word_shift shift n (m % bits))
counted domain sound shift bits some within a b n m true e h k =
    let inside = sound.bounds b m k in
    let same : (domain.bounds_of b).low ≡ m = omega (arith, eqb-true (domain.bounds_of b).low (domain.bounds_of b).high e, inside.0, inside.1) in
    let small = mod_below m bits some in
    subst (λ c. domain.contains (domain.shifted shift a (c % bits)) (word_shift shift n (m % bits))) (sym same) (sound.shifts shift a (m % bits) n (omega (arith, small, within)) h)
counted domain sound shift bits some within a b n m false e h k = sound.any (word_shift shift n (m % bits)) (arithmetic_fits (shift_operation shift) width.Bits64 n (m % bits))

shifted_by_kept : {X : Type 0} (domain : Ghosts X) → Sound domain → (shift : Shift) (bits : ℕ) → 0 < bits → bits ≤ 64 → (a b : X) (n m : ℕ) → domain.contains a n → domain.contains b m
    → domain.contains (shifted_by domain shift bits a b) (word_shift shift n (m % bits))
shifted_by_kept domain sound shift bits some within a b n m h k = counted domain sound shift bits some within a b n m ((domain.bounds_of b).low == (domain.bounds_of b).high) refl h k

shift_kept : {X : Type 0} (domain : Ghosts X) → Sound domain → (w : Width) (shift : Shift) (a b : X) (n m : ℕ) → domain.contains a n → domain.contains b m
    → domain.contains (shift_in domain w shift a b) (arithmetic (shift_operation shift) w n m)
shift_kept domain sound width.Bits64 shift a b n m h k = subst (domain.contains (shifted_by domain shift 64 a b)) (shift_by_count shift n m) (shifted_by_kept domain sound shift 64 (omega arith) (omega arith) a b n m h k)
shift_kept domain sound width.Bits32 shift.Left a b n m h k =
    subst (domain.contains (shift_in domain width.Bits32 shift.Left a b)) (half_left n m)
    (low_half_kept domain sound _ _ (shifted_by_kept domain sound shift.Left 32 (omega arith) (omega arith) (low_half domain a) (low_half domain b) (low 32 n) (low 32 m) (low_half_kept domain sound a n h) (low_half_kept domain sound b m k)))
shift_kept domain sound width.Bits32 shift.Right a b n m h k =
    subst (domain.contains (shift_in domain width.Bits32 shift.Right a b)) (half_right n m)
    (low_half_kept domain sound _ _ (shifted_by_kept domain sound shift.Right 32 (omega arith) (omega arith) (low_half domain a) (low_half domain b) (low 32 n) (low 32 m) (low_half_kept domain sound a n h) (low_half_kept domain sound b m k)))
shift_kept domain sound width.Bits32 shift.ArithmeticRight a b n m h k =
    subst (domain.contains (shift_in domain width.Bits32 shift.ArithmeticRight a b)) (half_arithmetic_right n m)
    (low_half_kept domain sound _ _ (shifted_by_kept domain sound shift.ArithmeticRight 32 (omega arith) (omega arith) (signed_half domain a) (low_half domain b) (sign_extended 32 n) (low 32 m) (signed_half_kept domain sound a n h) (low_half_kept domain sound b m k)))

move_kept : {X : Type 0} (domain : Ghosts X) → Sound domain → (w : Width) (b : X) (n m : ℕ) → domain.contains b m → domain.contains (move_in domain w b) (arithmetic operation.Move w n m)
move_kept domain sound width.Bits64 b n m k = subst (domain.contains b) (sym (mod-eq_of_lt (sound.words b m k))) k
move_kept domain sound width.Bits32 b n m k = subst (domain.contains (move_in domain width.Bits32 b)) (half_half m) (low_half_kept domain sound _ _ (low_half_kept domain sound b m k))

pub arithmetic_kept : {X : Type 0} (domain : Ghosts X) → Sound domain → (operation : Operation) (w : Width) (a b : X) (n m : ℕ) → domain.contains a n → domain.contains b m
    → domain.contains (arithmetic_in domain operation w a b) (arithmetic operation w n m)
arithmetic_kept domain sound operation.Add w a b n m h k = binary_kept domain sound binary.Add w a b n m (half_sum n m) h k
arithmetic_kept domain sound operation.Subtract w a b n m h k = binary_kept domain sound binary.Subtract w a b n m (half_difference n m) h k
arithmetic_kept domain sound operation.Multiply w a b n m h k = binary_kept domain sound binary.Multiply w a b n m (half_product n m) h k
arithmetic_kept domain sound operation.Divide w a b n m h k = binary_kept domain sound binary.Divide w a b n m (half_quotient n m) h k
arithmetic_kept domain sound operation.SignedDivide w a b n m h k = signed_binary_kept domain sound binary.SignedDivide w a b n m (half_signed_quotient n m) h k
arithmetic_kept domain sound operation.Or w a b n m h k = binary_kept domain sound binary.Or w a b n m (half_or n m) h k
arithmetic_kept domain sound operation.And w a b n m h k = binary_kept domain sound binary.And w a b n m (half_and n m) h k
arithmetic_kept domain sound operation.ShiftLeft w a b n m h k = shift_kept domain sound w shift.Left a b n m h k
arithmetic_kept domain sound operation.ShiftRight w a b n m h k = shift_kept domain sound w shift.Right a b n m h k
arithmetic_kept domain sound operation.Modulo w a b n m h k = binary_kept domain sound binary.Modulo w a b n m (half_remainder n m) h k
arithmetic_kept domain sound operation.SignedModulo w a b n m h k = signed_binary_kept domain sound binary.SignedModulo w a b n m (half_signed_remainder n m) h k
arithmetic_kept domain sound operation.Xor w a b n m h k = binary_kept domain sound binary.Xor w a b n m (half_xor n m) h k
arithmetic_kept domain sound operation.Move w a b n m h k = move_kept domain sound w b n m k
arithmetic_kept domain sound operation.ArithmeticShiftRight w a b n m h k = shift_kept domain sound w shift.ArithmeticRight a b n m h k

pub negation_kept : {X : Type 0} (domain : Ghosts X) → Sound domain → (w : Width) (a : X) (n : ℕ) → domain.contains a n → domain.contains (negation_in domain w a) (negation w n)
negation_kept domain sound w a n h = binary_kept domain sound binary.Subtract w (domain.of_word 0) a 0 n (half_difference 0 n) (sound.constants 0 (omega arith)) h

-- a word of 64 bits is its own sign extension
whole_by : (clear : Bool) (y : ℕ) → y < 2 ^ 64 → word_of (cond clear (pos y) (negsuc (2 ^ 64 - suc y))) ≡ y
whole_by true y h = refl
whole_by false y h = omega (arith, h)

whole : (n : ℕ) → low 32 (sign_extended 64 n) ≡ low 32 n
whole n = ap (low 32) (whole_by (nat_lt (low 64 n) (2 ^ 63)) (low 64 n) (mod_below n (2 ^ 64) (pow_pos 64))) ∙ half_of_low n

-- the low half of a sign extension is that of the low half's
half_of_move : (size : Size) (n : ℕ) → low 32 (sign_extended (bits_in size) (low 32 n)) ≡ moved_signed width.Bits32 size n
half_of_move size.Byte n = ap (λ y. low 32 (word_of (cond (nat_lt y (2 ^ 7)) (pos y) (negsuc (2 ^ 8 - suc y))))) (mod-mod-pow n 24 8)
half_of_move size.HalfWord n = ap (λ y. low 32 (word_of (cond (nat_lt y (2 ^ 15)) (pos y) (negsuc (2 ^ 16 - suc y))))) (mod-mod-pow n 16 16)
half_of_move size.Word n = ap (λ y. low 32 (word_of (cond (nat_lt y (2 ^ 31)) (pos y) (negsuc (2 ^ 32 - suc y))))) (half_half n)
half_of_move size.DoubleWord n = whole (low 32 n) ∙ half_half n ∙ sym (whole n)

pub signed_move_kept : {X : Type 0} (domain : Ghosts X) → Sound domain → (w : Width) (size : Size) (a : X) (n : ℕ) → domain.contains a n → domain.contains (signed_move_in domain w size a) (moved_signed w size n)
signed_move_kept domain sound width.Bits64 size a n h =
    subst (domain.contains (signed_move_in domain width.Bits64 size a)) (sym (mod-eq_of_lt (sign_extension_fits size n))) (sound.conversions conversion.SignExtended size a n h)
signed_move_kept domain sound width.Bits32 size a n h =
    subst (domain.contains (signed_move_in domain width.Bits32 size a)) (half_of_move size n)
    (low_half_kept domain sound _ _ (sound.conversions conversion.SignExtended size (low_half domain a) (low 32 n) (low_half_kept domain sound a n h)))

pub byte_order_kept : {X : Type 0} (domain : Ghosts X) → Sound domain → (byte_order : ByteOrder) (size : Size) (a : X) (n : ℕ) → domain.contains a n → domain.contains (byte_order_in domain byte_order size a) (converted byte_order size n)
byte_order_kept domain sound order.Little size a n h = sound.conversions conversion.Low size a n h
byte_order_kept domain sound order.Big size a n h = sound.conversions conversion.Swapped size a n h
byte_order_kept domain sound order.Swap size a n h = sound.conversions conversion.Swapped size a n h
