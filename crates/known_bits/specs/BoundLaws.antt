-- The laws of single words, of every word, of bounds, of known bits and of low zeros.
use Rattle.std.proofs.Common.{◌≡◌, ℕ, ◌-◌, ◌%◌, ◌^◌, ◌<◌, ◌≤◌, min, max, refl, sym, ap, ◌∙◌, subst, arith, true}
use Rattle.std.specs.Prelude.{bit_and, bit_or}
use Rattle.std.proofs.lemmas.Bool.{eqb-true}
use Rattle.std.proofs.lemmas.Nat.{and_le_l, and_mod}
use Rattle.std.proofs.lemmas.Nat.Bits.{bit_at-zero}
use Rattle.bpf_profile.specs.Words.{IsWord}
use Rattle.abs_domain.specs.Agreement.{Agrees}
use Rattle.abs_domain.specs.AgreementLaws.{above}
use Rattle.abs_domain.specs.declared.operations.Bits.{Bits}
use Rattle.known_bits.specs.BitLaws.{bit_of_and, bit_of_or, same_bits}
use Rattle.known_bits.specs.KnownBitsTable.{KnownContains, known_word, known_any, known_bounds, known_low_zero}
use Rattle.known_bits.specs.PlaceLaws.{Place, places}
use lib.Bits.{and_zero_l, and_zero_r}

pub contained : (a : Bits) (n : ℕ) → KnownContains a n → IsWord n
contained a n h = h.1.0

pub word_contained : (n : ℕ) → IsWord n → KnownContains (known_word n) n
word_contained n h = (and_zero_r n, (h, λ i clear. refl))

pub any_contains : (n : ℕ) → IsWord n → KnownContains known_any n
any_contains n h = (and_zero_l (2 ^ 64 - 1), (h, λ i clear. above n i h clear ∙ sym (bit_at-zero i)))

from_place : (v u n : ℕ) → Place v u n → min n v ≡ v
from_place v u n p = let f = p.from in omega arith

upto_place : (v u n : ℕ) → Place v u n → min (max v u) n ≡ n
upto_place v u n p = let d = p.apart in let t = p.upto in omega arith

-- a contained word has the value's bits
has_value : (a : Bits) (n : ℕ) → KnownContains a n → bit_and n a.value ≡ a.value
has_value a n h = same_bits (bit_and n a.value) a.value (λ i. bit_of_and n a.value i ∙ from_place _ _ _ (places a n h i))

-- and no others but unknown ones
within : (a : Bits) (n : ℕ) → KnownContains a n → bit_and (bit_or a.value a.unknown) n ≡ n
within a n h = same_bits (bit_and (bit_or a.value a.unknown) n) n (λ i. simp (bit_of_and, bit_of_or) (upto_place _ _ _ (places a n h i)))

pub bounds_hold : (a : Bits) (n : ℕ) → KnownContains a n → ((known_bounds a).low ≤ n) × (n ≤ (known_bounds a).high)
bounds_hold a n h = (
  subst (λ x. x ≤ n) (has_value a n h) (and_le_l n a.value),
  subst (λ x. x ≤ bit_or a.value a.unknown) (within a n h) (and_le_l (bit_or a.value a.unknown) n),
)

pub bits_hold : (a : Bits) (n : ℕ) → KnownContains a n → Agrees a.value a.unknown n
bits_hold a n h = h.1

pub low_zeros_hold : (a : Bits) (count n : ℕ) → count < 64 → known_low_zero a count ≡ true → KnownContains a n → n % 2 ^ count ≡ 0
low_zeros_hold a count n small zeros h =
    ap (λ x. x % 2 ^ count) (sym (within a n h)) ∙ and_mod (bit_or a.value a.unknown) n count
    ∙ ap (λ x. bit_and x (n % 2 ^ count)) (eqb-true (bit_or a.value a.unknown % 2 ^ count) 0 zeros)
    ∙ and_zero_l (n % 2 ^ count)
