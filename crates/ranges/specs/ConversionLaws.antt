-- What is made of the low bytes of contained words is contained.
use Rattle.std.proofs.Common.{◌≡◌, ℕ, suc, pos, negsuc, ◌+◌, ◌-◌, ◌*◌, ◌/◌, ◌%◌, ◌^◌, ◌<◌, ◌≤◌, cond, arith, sym, ap, subst}
use Rattle.std.proofs.Math.Nat.{mod-eq_of_lt}
use Rattle.std.proofs.lemmas.Bool.{lt-ltb, ltb-true, cond_both}
use Rattle.std.proofs.lemmas.Nat.{mod_below, pow_pos}
use Rattle.std.specs.Prelude.{nat_lt}
use Rattle.bpf_profile.specs.Words.{IsWord, low, bits_in, word_of, sign_extended, converted}
use Rattle.bpf_profile.specs.declared.instruction.ByteOrder.TheVariants as order
use Rattle.bpf_profile.specs.declared.instruction.Size.{Size}
use Rattle.bpf_profile.specs.declared.instruction.Size.TheVariants as size
use Rattle.abs_domain.specs.OperationLaws.{conversion_fits, swap_fits}
use Rattle.abs_domain.specs.Operations.{word_conversion}
use Rattle.abs_domain.specs.declared.operations.Bounds.{Bounds}
use Rattle.abs_domain.specs.declared.operations.Conversion.{Conversion}
use Rattle.abs_domain.specs.declared.operations.Conversion.TheVariants as conversion
use Rattle.ranges.specs.NumberLaws.{pow_grows}
use Rattle.ranges.specs.RangeTable.{RangeContains, range_conversion}
use Rattle.ranges.specs.SumLaws.{is_any}

-- ---- with copies of their highest bit

extended_by : (bits r n : ℕ) → r ≡ n → n < 2 ^ (bits - 1) → word_of (cond (nat_lt r (2 ^ (bits - 1))) (pos r) (negsuc (2 ^ bits - suc r))) ≡ n
extended_by bits r n e h =
    subst (λ x. word_of (cond (nat_lt x (2 ^ (bits - 1))) (pos x) (negsuc (2 ^ bits - suc x))) ≡ n) (sym e)
    (ap (λ t. word_of (cond t (pos n) (negsuc (2 ^ bits - suc n)))) (lt-ltb n (2 ^ (bits - 1)) h))

-- below half of 2 ^ bits nothing changes
extension_is : (bits n : ℕ) → n < 2 ^ (bits - 1) → sign_extended bits n ≡ n
extension_is bits n h = extended_by bits (low bits n) n (mod-eq_of_lt (omega (arith, pow_grows (bits - 1) bits (omega arith), h))) h

-- ---- reversed

byte_fits : (n : ℕ) → n % 256 < 256
byte_fits n = mod_below n 256 (pow_pos 8)

one_byte : (a : ℕ) → a < 256 → a + 256 * 0 ≤ 2 ^ 8 - 1
one_byte a p = omega arith

two_bytes : (a b : ℕ) → a < 256 → b < 256 → a + 256 * (b + 256 * 0) ≤ 2 ^ 16 - 1
two_bytes a b p q = omega arith

four_bytes : (a b c d : ℕ) → a < 256 → b < 256 → c < 256 → d < 256 → a + 256 * (b + 256 * (c + 256 * (d + 256 * 0))) ≤ 2 ^ 32 - 1
four_bytes a b c d p q r s = omega arith

-- the bytes of a size, reversed, are as many bytes
swap_at_most : (size : Size) (n : ℕ) → converted order.Swap size n ≤ 2 ^ bits_in size - 1
swap_at_most size.Byte n = one_byte (n % 256) (byte_fits n)
swap_at_most size.HalfWord n = two_bytes (n / 256 % 256) (n % 256) (byte_fits (n / 256)) (byte_fits n)
swap_at_most size.Word n = four_bytes (n / 16777216 % 256) (n / 65536 % 256) (n / 256 % 256) (n % 256) (byte_fits (n / 16777216)) (byte_fits (n / 65536)) (byte_fits (n / 256)) (byte_fits n)
swap_at_most size.DoubleWord n = let h = swap_fits size.DoubleWord n in at_most _ h
  where
    at_most : (m : ℕ) → IsWord m → m ≤ 2 ^ 64 - 1
    at_most m h = omega arith

-- ---- the law

pub conversion_kept : (conversion : Conversion) (size : Size) (a : Bounds) (n : ℕ) → RangeContains a n → RangeContains (range_conversion conversion size a) (word_conversion conversion size n)
conversion_kept conversion.Low size a n h =
    cond_both (nat_lt a.high (2 ^ bits_in size)) _ _ (λ r. RangeContains r (low (bits_in size) n))
    (λ e. subst (RangeContains a) (sym (mod-eq_of_lt (omega (arith, ltb-true _ _ e, h.2)))) h)
    (λ e. (conversion_fits conversion.Low size n, omega arith, omega (arith, mod_below n (2 ^ bits_in size) (pow_pos (bits_in size)))))
conversion_kept conversion.SignExtended size a n h =
    cond_both (nat_lt a.high (2 ^ (bits_in size - 1))) _ _ (λ r. RangeContains r (sign_extended (bits_in size) n))
    (λ e. subst (RangeContains a) (sym (extension_is (bits_in size) n (omega (arith, ltb-true _ _ e, h.2)))) h)
    (λ e. is_any _ (conversion_fits conversion.SignExtended size n))
conversion_kept conversion.Swapped size a n h = (conversion_fits conversion.Swapped size n, omega arith, swap_at_most size n)
