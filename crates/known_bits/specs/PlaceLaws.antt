-- What known bits say of a word, one place at a time.
use Rattle.std.proofs.Common.{◌≡◌, ℕ, ◌+◌, ◌<◌, ◌≤◌, min, ◌⊎◌, inl, inr, sym, ap, ◌∙◌, arith}
use Rattle.std.specs.Prelude.{bit_and}
use Rattle.std.proofs.lemmas.Bool.{cases_eq}
use Rattle.bpf_profile.specs.Words.{IsWord}
use Rattle.abs_domain.specs.declared.operations.Bits.{Bits}
use Rattle.known_bits.specs.BitLaws.{bit, bit_is, bit_small, bit_of_and, same_bits, bit_above}
use Rattle.known_bits.specs.KnownBitsTable.{KnownContains}

-- a bit of a word lies between what is known of it: the value's bit, and one more where it is unknown
pub record Place (value : ℕ) (unknown : ℕ) (n : ℕ) : Type 0 where
  pub apart : value + unknown ≤ 1
  pub from : value ≤ n
  pub upto : n ≤ value + unknown

apart_at : (v u : ℕ) → v < 2 → u < 2 → min v u ≡ 0 → v + u ≤ 1
apart_at v u p q e = omega arith

place_by : (v u n : ℕ) → u < 2 → n < 2 → v + u ≤ 1 → (u ≡ 0 → n ≡ v) → (u ≡ 0) ⊎ (u ≡ 0 → ⊥) → Place v u n
place_by v u n p q d h (inl e) = let k = h e in record { apart = d; from = omega arith; upto = omega arith }
place_by v u n p q d h (inr e) = let one : u ≡ 1 = omega arith in record { apart = d; from = omega arith; upto = omega arith }

-- contained words lie so at each place
pub places : (a : Bits) (n : ℕ) → KnownContains a n → (i : ℕ) → Place (bit a.value i) (bit a.unknown i) (bit n i)
places a n h i =
    let d : min (bit a.value i) (bit a.unknown i) ≡ 0 = sym (bit_of_and a.value a.unknown i) ∙ ap (λ x. bit x i) h.0 ∙ bit_above 0 0 i (omega arith) (omega arith) in
    place_by (bit a.value i) (bit a.unknown i) (bit n i) (bit_small a.unknown i) (bit_small n i)
    (apart_at (bit a.value i) (bit a.unknown i) (bit_small a.value i) (bit_small a.unknown i) d)
    (λ e. bit_is n i ∙ h.1.1 i (sym (bit_is a.unknown i) ∙ e) ∙ sym (bit_is a.value i))
    (cases_eq (bit a.unknown i) 0)

none : (v u n : ℕ) → Place v u n → min v u ≡ 0
none v u n p = let d = p.apart in omega arith

same : (v u n : ℕ) → Place v u n → u ≡ 0 → n ≡ v
same v u n p e = let f = p.from in let t = p.upto in omega arith

-- words that lie so at each place are contained
pub from_places : (a : Bits) (n : ℕ) → IsWord n → ((i : ℕ) → Place (bit a.value i) (bit a.unknown i) (bit n i)) → KnownContains a n
from_places a n fits h = (
  same_bits (bit_and a.value a.unknown) 0 (λ i. bit_of_and a.value a.unknown i ∙ none _ _ _ (h i) ∙ sym (bit_above 0 0 i (omega arith) (omega arith))),
  (fits, λ i e. sym (bit_is n i) ∙ same _ _ _ (h i) (bit_is a.unknown i ∙ e) ∙ bit_is a.value i),
)

-- the same place by other names
pub renamed : {v u n : ℕ} (w t m : ℕ) → Place v u n → w ≡ v → t ≡ u → m ≡ n → Place w t m
renamed w t m p e f g = let d = p.apart in let l = p.from in let r = p.upto in record { apart = omega arith; from = omega arith; upto = omega arith }
