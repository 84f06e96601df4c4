-- What the operations make of words are words.
use Rattle.std.proofs.Common.{ℕ, pos, negsuc, ◌+◌, ◌-◌, ◌*◌, ◌/◌, ◌%◌, ◌^◌, ◌<◌, Bool, true, false, cond, arith}
use Rattle.std.proofs.lemmas.Nat.{pow_pos, mod_below}
use Rattle.std.specs.Prelude.{nat_lt}
use Rattle.bpf_profile.proofs.Results.{arithmetic_fits}
use Rattle.bpf_profile.specs.Words.{low, bits_in, word_of, sign_extended, converted, IsWord}
use Rattle.bpf_profile.specs.declared.instruction.ByteOrder.TheVariants as order
use Rattle.bpf_profile.specs.declared.instruction.Size.{Size}
use Rattle.bpf_profile.specs.declared.instruction.Size.TheVariants as size
use Rattle.bpf_profile.specs.declared.instruction.Width.TheVariants as width
use Rattle.abs_domain.specs.Operations.{binary_operation, shift_operation, word_operation, word_shift, word_conversion}
use Rattle.abs_domain.specs.declared.operations.Binary.{Binary}
use Rattle.abs_domain.specs.declared.operations.Conversion.{Conversion}
use Rattle.abs_domain.specs.declared.operations.Conversion.TheVariants as conversion
use Rattle.abs_domain.specs.declared.operations.Shift.{Shift}

pub operation_fits : (operation : Binary) (a b : ℕ) → IsWord (word_operation operation a b)
operation_fits operation a b = arithmetic_fits (binary_operation operation) width.Bits64 a b

pub shift_fits : (shift : Shift) (a count : ℕ) → IsWord (word_shift shift a count)
shift_fits shift a count = arithmetic_fits (shift_operation shift) width.Bits64 a count

pub low_fits : (size : Size) (a : ℕ) → IsWord (low (bits_in size) a)
low_fits size.Byte a = let h = mod_below a (2 ^ 8) (pow_pos 8) in omega arith
low_fits size.HalfWord a = let h = mod_below a (2 ^ 16) (pow_pos 16) in omega arith
low_fits size.Word a = let h = mod_below a (2 ^ 32) (pow_pos 32) in omega arith
low_fits size.DoubleWord a = mod_below a (2 ^ 64) (pow_pos 64)

word_of_fits : (test : Bool) (n m : ℕ) → n < 2 ^ 64 → IsWord (word_of (cond test (pos n) (negsuc m)))
word_of_fits true n m h = h
word_of_fits false n m h = omega arith

pub sign_extension_fits : (size : Size) (a : ℕ) → IsWord (sign_extended (bits_in size) a)
sign_extension_fits size a = word_of_fits (nat_lt (low (bits_in size) a) (2 ^ (bits_in size - 1))) (low (bits_in size) a) _ (low_fits size a)

byte_fits : (a : ℕ) → a % 256 < 256
byte_fits a = mod_below a 256 (pow_pos 8)

-- eight bytes, the lowest first, are a word
bytes_fit : (a b c d e f g h : ℕ) → a < 256 → b < 256 → c < 256 → d < 256 → e < 256 → f < 256 → g < 256 → h < 256
    → a + 256 * (b + 256 * (c + 256 * (d + 256 * (e + 256 * (f + 256 * (g + 256 * (h + 0))))))) < 2 ^ 64
bytes_fit a b c d e f g h p q r s t u v w = omega arith

pub swap_fits : (size : Size) (a : ℕ) → IsWord (converted order.Swap size a)
swap_fits size.Byte a = bytes_fit (a % 256) 0 0 0 0 0 0 0 (byte_fits a) (pow_pos 8) (pow_pos 8) (pow_pos 8) (pow_pos 8) (pow_pos 8) (pow_pos 8) (pow_pos 8)
swap_fits size.HalfWord a = bytes_fit (a / 256 % 256) (a % 256) 0 0 0 0 0 0 (byte_fits (a / 256)) (byte_fits a) (pow_pos 8) (pow_pos 8) (pow_pos 8) (pow_pos 8) (pow_pos 8) (pow_pos 8)
swap_fits size.Word a = bytes_fit (a / 16777216 % 256) (a / 65536 % 256) (a / 256 % 256) (a % 256) 0 0 0 0 (byte_fits (a / 16777216)) (byte_fits (a / 65536)) (byte_fits (a / 256)) (byte_fits a) (pow_pos 8) (pow_pos 8) (pow_pos 8) (pow_pos 8)
swap_fits size.DoubleWord a = bytes_fit (a / 72057594037927936 % 256) (a / 281474976710656 % 256) (a / 1099511627776 % 256) (a / 4294967296 % 256) (a / 16777216 % 256) (a / 65536 % 256) (a / 256 % 256) (a % 256) (byte_fits (a / 72057594037927936)) (byte_fits (a / 281474976710656)) (byte_fits (a / 1099511627776)) (byte_fits (a / 4294967296)) (byte_fits (a / 16777216)) (byte_fits (a / 65536)) (byte_fits (a / 256)) (byte_fits a)

pub conversion_fits : (conversion : Conversion) (size : Size) (a : ℕ) → IsWord (word_conversion conversion size a)
conversion_fits conversion.Low size a = low_fits size a
conversion_fits conversion.SignExtended size a = sign_extension_fits size a
conversion_fits conversion.Swapped size a = swap_fits size a
