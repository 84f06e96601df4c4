-- The bits that are 0 in `differing` are the leading bits that two words share.
use Rattle.std.proofs.Common.{◌≡◌, ℕ, zero, suc, ◌+◌, ◌-◌, ◌*◌, ◌/◌, ◌%◌, ◌^◌, ◌<◌, ◌≤◌, ◌⊎◌, inl, inr, arith, refl, sym, ap, ◌∙◌, subst}
use lib.Pow.{pow_mono, shr_mono, shr-shr}
use Rattle.std.proofs.Math.Nat.{mul-div_cancel}
use Rattle.std.proofs.lemmas.Bool.{cases_lt}
use Rattle.std.proofs.lemmas.Nat.{leading_length, leading_top, pow_pos, xor_lt}
use Rattle.std.proofs.lemmas.Nat.Bits.{bit_at_xor, bit_at-lt, bit_at_ones, bit_at_ones_above, bit_at_above, same_from_bits}
use Rattle.std.specs.Int.{bit_at, leading_zeros, w64}
use Rattle.std.specs.Int.Count.{leading_of_zero}
use Rattle.std.specs.Prelude.{bit_xor}
use Rattle.bpf_profile.specs.Words.{IsWord}
use Rattle.abs_domain.specs.Reduction.{SharesLeadingBit, differing}

same_by_sum : (x y : ℕ) → x < 2 → y < 2 → (x + y) % 2 ≡ 0 → x ≡ y
same_by_sum x y p q e = omega (arith, e, p, q)

-- the bits that are 0 in the difference are the same
same_bit : (a b i : ℕ) → bit_at (bit_xor a b) i ≡ 0 → bit_at a i ≡ bit_at b i
same_bit a b i clear = same_by_sum (bit_at a i) (bit_at b i) (bit_at-lt a i) (bit_at-lt b i) (sym (bit_at_xor a b i) ∙ clear)

sum_by_same : (x y : ℕ) → x ≡ y → (x + y) % 2 ≡ 0
sum_by_same x y e = omega (arith, e)

clear_bit : (a b i : ℕ) → bit_at a i ≡ bit_at b i → bit_at (bit_xor a b) i ≡ 0
clear_bit a b i same = bit_at_xor a b i ∙ sum_by_same (bit_at a i) (bit_at b i) same

shared_by : (k a b bit : ℕ) → bit_xor a b < 2 ^ k → bit_at (2 ^ k - 1) bit ≡ 0 → (bit < k) ⊎ (k ≤ bit) → SharesLeadingBit a b bit
shared_by k a b bit h clear (inl low) = absurd (omega (arith, clear, bit_at_ones k bit low))
shared_by k a b bit h clear (inr high) = λ i from. same_bit a b i (bit_at_above (bit_xor a b) k i h (omega (arith, high, from)))

pub shared_from_clear : (a b bit : ℕ) → IsWord a → IsWord b → bit_at (differing a b) bit ≡ 0 → SharesLeadingBit a b bit
shared_from_clear a b bit v w clear =
    let length = leading_length 64 (bit_xor a b) (xor_lt 64 a b v w) in
    let k : 64 - leading_zeros w64 (bit_xor a b) ≡ length.0 = omega (arith, length.1) in
    let h : bit_xor a b < 2 ^ (64 - leading_zeros w64 (bit_xor a b)) = subst (λ x. bit_xor a b < 2 ^ x) (sym k) length.2 in
    shared_by (64 - leading_zeros w64 (bit_xor a b)) a b bit h clear (cases_lt bit (64 - leading_zeros w64 (bit_xor a b)))

bits_of_zero : (i : ℕ) → bit_at 0 i ≡ 0
bits_of_zero i = omega arith

-- a number without bits from one on is below its power
no_bits_above : (d bit : ℕ) → ((i : ℕ) → bit ≤ i → bit_at d i ≡ 0) → d / 2 ^ bit ≡ 0
no_bits_above d bit clear = same_from_bits (d / 2 ^ bit) 0 (λ i. ap (λ x. x % 2) (shr-shr d bit i) ∙ clear (bit + i) (omega arith) ∙ sym (bits_of_zero i))

none_below : (d bit : ℕ) → 2 ^ bit ≤ d → d / 2 ^ bit ≡ 0 → ⊥
none_below d bit h e = omega (arith, e, mul-div_cancel 1 (pow_pos bit), shr_mono {a = 1 * 2 ^ bit} {b = d} bit (omega (arith, h)))

clear_by : (k a b bit : ℕ) → SharesLeadingBit a b bit → ((bit < k) → 2 ^ bit ≤ bit_xor a b) → (bit < k) ⊎ (k ≤ bit) → bit_at (2 ^ k - 1) bit ≡ 0
clear_by k a b bit shares above (inl low) = absurd (none_below (bit_xor a b) bit (above low) (no_bits_above (bit_xor a b) bit (λ i from. clear_bit a b i (shares i from))))
clear_by k a b bit shares above (inr high) = bit_at_ones_above k bit high

-- the difference is at least the power of each bit that isn't leading
above_by : (d bit : ℕ) → d < 2 ^ 64 → (0 ≡ d) ⊎ (0 < d) → bit < 64 - leading_zeros w64 d → 2 ^ bit ≤ d
above_by d bit fits (inl none) low = absurd (omega (arith, leading_of_zero 64, subst (λ x. bit < 64 - leading_zeros w64 x) (sym none) low))
above_by d bit fits (inr some) low = let top = leading_top 64 d some fits in omega (arith, top.2, pow_mono {i = bit} {j = top.0} (omega (arith, top.1, low)))

none_or_some : (n : ℕ) → (0 ≡ n) ⊎ (0 < n)
none_or_some zero = inl refl
none_or_some (suc n) = inr (omega arith)

pub clear_from_shared : (a b bit : ℕ) → IsWord a → IsWord b → SharesLeadingBit a b bit → bit_at (differing a b) bit ≡ 0
clear_from_shared a b bit v w shares =
    clear_by (64 - leading_zeros w64 (bit_xor a b)) a b bit shares (above_by (bit_xor a b) bit (xor_lt 64 a b v w) (none_or_some (bit_xor a b))) (cases_lt bit (64 - leading_zeros w64 (bit_xor a b)))
