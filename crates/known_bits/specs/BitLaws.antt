-- One bit of a number, through each operation.
use Rattle.std.proofs.Common.{◌≡◌, ℕ, ◌+◌, ◌-◌, ◌*◌, ◌/◌, ◌%◌, ◌^◌, ◌<◌, ◌≤◌, min, max, refl, ap, ◌∙◌, subst, arith}
use Rattle.std.specs.Prelude.{bit_and, bit_or, bit_xor}
use Rattle.std.specs.Int.{bit_at, w64}
use Rattle.std.proofs.lemmas.Nat.{shr-shr, mod_below, pow_pos}
use Rattle.std.proofs.lemmas.Nat.Bits.{bit_at_and, bit_at_or, bit_at_xor, bit_at-lt, bit_at_not, bit_at_above, bit_at_cat_low, bit_at_cat_high, bit_at_mask_inside, bit_at_mask_below, bit_at_mask_above, same_from_bits}
use Rattle.known_bits.specs.KnownBitsTable.{without}
use lib.Pow.{field, mod-mod-pow}

-- a bit, as one number
unfoldable pub bit : ℕ → ℕ → ℕ
bit n i = bit_at n i

pub bit_is : (n i : ℕ) → bit n i ≡ bit_at n i
unfolding bit
bit_is n i = refl

pub bit_small : (n i : ℕ) → bit n i < 2
unfolding bit
bit_small n i = bit_at-lt n i

pub bit_of_and : (a b i : ℕ) → bit (bit_and a b) i ≡ min (bit a i) (bit b i)
unfolding bit
bit_of_and a b i = bit_at_and a b i

pub bit_of_or : (a b i : ℕ) → bit (bit_or a b) i ≡ max (bit a i) (bit b i)
unfolding bit
bit_of_or a b i = bit_at_or a b i

pub bit_of_xor : (a b i : ℕ) → bit (bit_xor a b) i ≡ (bit a i + bit b i) % 2
unfolding bit
bit_of_xor a b i = bit_at_xor a b i

less : (a b : ℕ) → a < 2 → b < 2 → (a + min a b) % 2 ≡ a - b
less a b h k = omega arith

pub bit_of_without : (a b i : ℕ) → bit (without a b) i ≡ bit a i - bit b i
unfolding without
bit_of_without a b i = bit_of_xor a (bit_and a b) i ∙ ap (λ x. (bit a i + x) % 2) (bit_of_and a b i) ∙ less (bit a i) (bit b i) (bit_small a i) (bit_small b i)

pub same_bits : (a b : ℕ) → ((i : ℕ) → bit a i ≡ bit b i) → a ≡ b
unfolding bit
same_bits a b h = same_from_bits a b h

pub bit_above : (n k i : ℕ) → n < 2 ^ k → k ≤ i → bit n i ≡ 0
unfolding bit
bit_above n k i h p = bit_at_above n k i h p

-- of the low bits
pub bit_of_low : (n k i : ℕ) → i < k → bit (n % 2 ^ k) i ≡ bit n i
unfolding bit
bit_of_low n k i h =
    let m = k - 1 - i in
    let e : m + 1 + i ≡ k = omega arith in
    subst (λ w. bit_at (n % 2 ^ w) i ≡ bit_at n i) e (ap (λ x. x % 2) (field n (m + 1) i) ∙ mod-mod-pow (n / 2 ^ i) m 1)

pub bit_of_low_above : (n k i : ℕ) → k ≤ i → bit (n % 2 ^ k) i ≡ 0
bit_of_low_above n k i h = bit_above (n % 2 ^ k) k i (mod_below n (2 ^ k) (pow_pos k)) h

-- of a shifted number
pub bit_of_right : (n k i : ℕ) → bit (n / 2 ^ k) i ≡ bit n (k + i)
unfolding bit
bit_of_right n k i = ap (λ x. x % 2) (shr-shr n k i)

pub bit_of_pair_low : (a k b i : ℕ) → i < k → bit (a * 2 ^ k + b) i ≡ bit b i
unfolding bit
bit_of_pair_low a k b i h = bit_at_cat_low a k b i h

pub bit_of_pair_high : (a k b i : ℕ) → b < 2 ^ k → k ≤ i → bit (a * 2 ^ k + b) i ≡ bit a (i - k)
unfolding bit
bit_of_pair_high a k b i h p = bit_at_cat_high a k b i h p

pub bit_of_complement : (n i : ℕ) → n < 2 ^ 64 → i < 64 → bit (2 ^ 64 - 1 - n) i ≡ 1 - bit n i
unfolding bit
bit_of_complement n i h p = bit_at_not w64 n i h p

-- of a run of ones up to place 64
pub bit_of_mask_inside : (k i : ℕ) → k ≤ i → i < 64 → bit (2 ^ 64 - 2 ^ k) i ≡ 1
unfolding bit
bit_of_mask_inside k i p q = bit_at_mask_inside k 64 i p q

pub bit_of_mask_below : (k i : ℕ) → i < k → bit (2 ^ 64 - 2 ^ k) i ≡ 0
unfolding bit
bit_of_mask_below k i h = bit_at_mask_below k 64 i h

pub bit_of_mask_above : (k i : ℕ) → 64 ≤ i → bit (2 ^ 64 - 2 ^ k) i ≡ 0
unfolding bit
bit_of_mask_above k i h = bit_at_mask_above k 64 i h
