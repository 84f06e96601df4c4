-- What the bitwise operations make of contained words is contained.
use Rattle.std.proofs.Common.{◌≡◌, ℕ, ◌+◌, ◌-◌, ◌*◌, ◌^◌, ◌<◌, ◌≤◌, max, arith, subst}
use Rattle.std.proofs.lemmas.Nat.{and_le_l, and_le_r, le_or_l, le_or_r, or_lt, xor_lt, leading_length, leading_le}
use Rattle.std.specs.Int.{w64, leading_zeros}
use Rattle.std.specs.Prelude.{bit_and, bit_or, bit_xor}
use Rattle.bpf_profile.specs.Words.{IsWord}
use Rattle.abs_domain.specs.declared.operations.Bounds.{Bounds}
use Rattle.ranges.specs.RangeTable.{RangeContains, last_word, range_and, range_or, range_xor}

-- how many bits a word has, and what that says of it
pub length_of : (n : ℕ) → IsWord n → (leading_zeros w64 n ≤ 64) × (n < 2 ^ (64 - leading_zeros w64 n)) × (2 ^ (64 - leading_zeros w64 n) ≤ 2 * n + 1)
length_of n h =
    let found = leading_length 64 n h in
    let same : found.0 ≡ 64 - leading_zeros w64 n = omega (arith, found.1) in
    (leading_le 64 n, subst (λ k. n < 2 ^ k) same found.2, subst (λ k. 2 ^ k ≤ 2 * n + 1) same found.3)

pub and_kept : (a b : Bounds) (n m : ℕ) → RangeContains a n → RangeContains b m → RangeContains (range_and a b) (bit_and n m)
and_kept a b n m h k =
    let first = and_le_l n m in
    let second = and_le_r n m in
    (omega (arith, first, h.0), omega arith, omega (arith, first, second, h.2, k.2))

-- both words are at most the greater of the last ones, and have no more bits
below_ones : (a b : Bounds) (n m : ℕ) → RangeContains a n → RangeContains b m → (n < 2 ^ (64 - leading_zeros w64 (max (last_word a) (last_word b)))) × (m < 2 ^ (64 - leading_zeros w64 (max (last_word a) (last_word b))))
below_ones a b n m h k =
    let above = (length_of (max (last_word a) (last_word b)) (omega arith)).1 in
    (omega (arith, above, h.0, h.2), omega (arith, above, k.0, k.2))

pub or_kept : (a b : Bounds) (n m : ℕ) → RangeContains a n → RangeContains b m → RangeContains (range_or a b) (bit_or n m)
or_kept a b n m h k =
    let small = below_ones a b n m h k in
    let under = or_lt (64 - leading_zeros w64 (max (last_word a) (last_word b))) n m small.0 small.1 in
    (or_lt 64 n m h.0 k.0, omega (arith, le_or_l n m, le_or_r n m, h.1, k.1), omega (arith, under))

pub xor_kept : (a b : Bounds) (n m : ℕ) → RangeContains a n → RangeContains b m → RangeContains (range_xor a b) (bit_xor n m)
xor_kept a b n m h k =
    let small = below_ones a b n m h k in
    let under = xor_lt (64 - leading_zeros w64 (max (last_word a) (last_word b))) n m small.0 small.1 in
    (xor_lt 64 n m h.0 k.0, omega arith, omega (arith, under))
