-- The least number of ones alone that is at least a word.
use Rattle.std.proofs.Common.{◌≡◌, ℕ, suc, ◌+◌, ◌-◌, ◌*◌, ◌^◌, ◌<◌, ◌≤◌, ◌⊎◌, inl, inr, arith, refl, sym, subst}
use Rattle.std.proofs.lemmas.Bool.{cases_lt}
use Rattle.std.proofs.lemmas.Nat.{pow_pos}
use Rattle.std.specs.Int.{w64, leading_zeros}
use Rattle.bpf_profile.specs.Words.{IsWord}
use Rattle.ranges.specs.BitwiseLaws.{length_of}
use Rattle.ranges.specs.NumberLaws.{pow_grows}
use Rattle.ranges.specs.RangeTable.{IsOnes, ones_over}

pub ones_over_is_ones : (n : ℕ) → IsOnes (ones_over n)
ones_over_is_ones n = (64 - leading_zeros w64 n, refl)

pub ones_over_is_over : (n : ℕ) → IsWord n → n ≤ ones_over n
ones_over_is_over n h = omega (arith, (length_of n h).1)

least_by : (n k length : ℕ) → 2 ^ length ≤ 2 * n + 1 → n ≤ 2 ^ k - 1 → (length < suc k) ⊎ (suc k ≤ length) → 2 ^ length - 1 ≤ 2 ^ k - 1
least_by n k length p q (inl l) = omega (arith, pow_grows length k (omega arith))
least_by n k length p q (inr g) = absurd (omega (arith, pow_grows (suc k) length g, pow_pos k, twice k))
  where
    twice : (k : ℕ) → 2 ^ suc k ≡ 2 * 2 ^ k
    twice k = omega arith

-- no lesser number of ones alone is at least the word
pub ones_over_is_least : (n m : ℕ) → IsWord n → IsOnes m → n ≤ m → ones_over n ≤ m
ones_over_is_least n m h (k, e) l =
    let lengths = cases_lt (64 - leading_zeros w64 n) (suc k) in
    subst (λ x. ones_over n ≤ x) (sym e) (least_by n k (64 - leading_zeros w64 n) (length_of n h).2 (omega (arith, e, l)) lengths)
