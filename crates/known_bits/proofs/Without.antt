-- The bits of one word without those of another.
use Rattle.std.proofs.Common.{◌≡◌, ℕ, ◌-◌, ◌^◌, ◌<◌, ◌≤◌, min, ◌⊎◌, inl, inr, sym, ap, ◌∙◌, arith}
use Rattle.std.specs.Prelude.{bit_and}
use Rattle.std.proofs.lemmas.Bool.{cases_lt}
use Rattle.known_bits.specs.BitLaws.{bit, bit_small, bit_above, bit_of_and, bit_of_complement, bit_of_without, same_bits}
use Rattle.known_bits.specs.KnownBitsTable.{without}

-- what the code computes for `a & !b`
pub without_is : (a b : ℕ) → a < 2 ^ 64 → b < 2 ^ 64 → bit_and a (2 ^ 64 - 1 - b) ≡ without a b
without_is a b h k = same_bits _ _ (λ i. at i (cases_lt i 64))
  where
    chosen : (x y : ℕ) → x < 2 → y < 2 → min x (1 - y) ≡ x - y
    chosen x y p q = omega arith

    none : (x y z : ℕ) → x ≡ 0 → min x y ≡ x - z
    none x y z e = omega arith

    at : (i : ℕ) → (i < 64) ⊎ (64 ≤ i) → bit (bit_and a (2 ^ 64 - 1 - b)) i ≡ bit (without a b) i
    at i (inl p) = bit_of_and a (2 ^ 64 - 1 - b) i ∙ ap (min (bit a i)) (bit_of_complement b i k p) ∙ chosen (bit a i) (bit b i) (bit_small a i) (bit_small b i) ∙ sym (bit_of_without a b i)
    at i (inr q) = bit_of_and a (2 ^ 64 - 1 - b) i ∙ none (bit a i) (bit (2 ^ 64 - 1 - b) i) (bit b i) (bit_above a 64 i h q) ∙ sym (bit_of_without a b i)
