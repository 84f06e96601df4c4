-- Ones up to the highest bit in which two words differ.
use Rattle.std.proofs.Common.{◌≡◌, ℕ, zero, suc, ◌+◌, ◌-◌, ◌*◌, ◌%◌, ◌^◌, ◌<◌, ◌≤◌, arith, refl, sym, ap, ◌∙◌, subst, pow-suc}
use Rattle.std.proofs.Math.Nat.{mod-eq_of_lt}
use Rattle.std.proofs.lemmas.Nat.{leading_top, pow_pos}
use Rattle.std.specs.Int.{leading_zeros, w64}
use Rattle.std.specs.Int.Count.{leading_of_zero}
use Rattle.std.specs.Prelude.{bit_xor}
use Rattle.abs_domain.specs.Reduction.{differing}

pub same : (a b : ℕ) → bit_xor a b ≡ 0 → 0 ≡ differing a b
same a b e = ap (λ x. 2 ^ (64 - x) - 1) (sym (leading_of_zero 64)) ∙ ap (λ x. 2 ^ (64 - leading_zeros w64 x) - 1) (sym e)

pub positive : (n : ℕ) → (n ≡ 0 → ⊥) → 0 < n
positive zero h = absurd (h refl)
positive (suc n) h = omega arith

pub has_highest : (d : ℕ) → 0 < d → d < 2 ^ 64 → leading_zeros w64 d ≤ 63
has_highest d some fits = let top = leading_top 64 d some fits in omega (arith, top.1)

ones : (p q : ℕ) → 0 < p → q ≡ p + p → p - 1 + p ≡ q - 1
ones p q some twice = omega (arith, some, twice)

ones_at : (z j : ℕ) → z + suc j ≡ 64 → 2 ^ j < 2 ^ 64 → 1 * 2 ^ (63 - z) % 2 ^ 64 - 1 + 1 * 2 ^ (63 - z) % 2 ^ 64 ≡ 2 ^ (64 - z) - 1
ones_at z j e fits =
    let low : 63 - z ≡ j = omega (arith, e) in
    let high : 64 - z ≡ suc j = omega (arith, e) in
    let one : 1 * 2 ^ (63 - z) % 2 ^ 64 ≡ 2 ^ j = ap (λ x. 1 * 2 ^ x % 2 ^ 64) low ∙ mod-eq_of_lt (omega (arith, fits)) ∙ omega arith in
    let two : 2 ^ (64 - z) ≡ 2 ^ j + 2 ^ j = ap (λ x. 2 ^ x) high ∙ pow-suc 2 j ∙ omega arith in
    subst (λ x. x - 1 + x ≡ 2 ^ (64 - z) - 1) (sym one) (ones (2 ^ j) (2 ^ (64 - z)) (pow_pos j) two)

pub different : (a b : ℕ) → 0 < bit_xor a b → bit_xor a b < 2 ^ 64
    → 1 * 2 ^ (63 - leading_zeros w64 (bit_xor a b)) % 2 ^ 64 - 1 + 1 * 2 ^ (63 - leading_zeros w64 (bit_xor a b)) % 2 ^ 64 ≡ differing a b
different a b some fits =
    let top = leading_top 64 (bit_xor a b) some fits in
    ones_at (leading_zeros w64 (bit_xor a b)) top.0 top.1 (omega (arith, top.2, fits))
