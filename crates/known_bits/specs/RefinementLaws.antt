-- What comparisons and other knowledge of a word's bits tell: no contained word is lost.
use Rattle.std.proofs.Common.{◌≡◌, ℕ, ◌-◌, ◌<◌, ◌==◌, ◌&&◌, min, max, refl, sym, ap, ◌∙◌, subst, arith, Bool, true, false, cond, ◌⊎◌, inl, inr}
use Rattle.std.specs.Prelude.{bit_and}
use Rattle.std.proofs.lemmas.Bool.{eqb-true, and_parts, cases_eq}
use Rattle.abs_domain.specs.Agreement.{Agrees}
use Rattle.abs_domain.specs.Operations.{Relates}
use Rattle.abs_domain.specs.declared.operations.Bits.{Bits}
use Rattle.abs_domain.specs.declared.operations.Relation.{Relation}
use Rattle.abs_domain.specs.declared.operations.Relation.TheVariants as relation
use Rattle.known_bits.specs.BitLaws.{bit, bit_is, bit_small, bit_above, bit_of_and, bit_of_or, bit_of_without}
use Rattle.known_bits.specs.KnownBitsTable.{KnownContains, without, clashes, known_both, known_first, known_second, known_fixed}
use Rattle.known_bits.specs.PlaceLaws.{Place, places, from_places}

both_place : (v u w t n : ℕ) → Place v u n → Place w t n → Place (max v w) (min u t) n
both_place v u w t n p q =
    let a = p.apart in
    let b = p.from in
    let c = p.upto in
    let d = q.apart in
    let e = q.from in
    let f = q.upto in
    record { apart = omega arith; from = omega arith; upto = omega arith }

both_contain : (a b : Bits) (n : ℕ) → KnownContains a n → KnownContains b n → KnownContains (known_both a b) n
both_contain a b n h k = from_places (known_both a b) n h.1.0 (λ i. simp (bit_of_and, bit_of_or) (both_place _ _ _ _ _ (places a n h i) (places b n k i)))

either : (test : Bool) (a b : Bits) (n : ℕ) → KnownContains a n → KnownContains b n → KnownContains (cond test a b) n
either true a b n h k = h
either false a b n h k = k

apart_place : (v u n w t m : ℕ) → Place v u n → Place w t m → t ≡ 0 → min n m ≡ 0 → Place v (u - w) n
apart_place v u n w t m p q e z =
    let a = p.apart in
    let b = p.from in
    let c = p.upto in
    let d = q.from in
    let f = q.upto in
    record { apart = omega arith; from = omega arith; upto = omega arith }

no_bit : (n i : ℕ) → n ≡ 0 → bit n i ≡ 0
no_bit n i e = ap (λ x. bit x i) e ∙ bit_above 0 0 i (omega arith) (omega arith)

apart_by : (test : Bool) (a b : Bits) (n m : ℕ) → ((b.unknown == 0) && (bit_and a.value b.value == 0)) ≡ test → KnownContains a n → KnownContains b m → bit_and n m ≡ 0
    → KnownContains (cond test (record { value = a.value; unknown = without a.unknown b.value }) a) n
apart_by true a b n m is h k z =
    let known : b.unknown ≡ 0 = eqb-true b.unknown 0 (and_parts _ _ is).0 in
    from_places (record { value = a.value; unknown = without a.unknown b.value }) n h.1.0
    (λ i. simp (bit_of_without) (apart_place _ _ _ _ _ _ (places a n h i) (places b m k i) (no_bit b.unknown i known) (sym (bit_of_and n m i) ∙ no_bit (bit_and n m) i z)))
apart_by false a b n m is h k z = h

pub first_kept : (relation : Relation) (a b : Bits) (n m : ℕ) → KnownContains a n → KnownContains b m → Relates relation n m → KnownContains (known_first relation a b) n
first_kept relation.Equal a b n m h k e = either (clashes a b == 0) (known_both a b) a n (both_contain a b n h (subst (λ x. KnownContains b x) (sym e) k)) h
first_kept relation.NotEqual a b n m h k e = h
first_kept relation.Greater a b n m h k e = h
first_kept relation.GreaterOrEqual a b n m h k e = h
first_kept relation.Disjoint a b n m h k e = apart_by ((b.unknown == 0) && (bit_and a.value b.value == 0)) a b n m refl h k e
first_kept relation.Overlapping a b n m h k e = h

pub second_kept : (relation : Relation) (a b : Bits) (n m : ℕ) → KnownContains a n → KnownContains b m → Relates relation n m → KnownContains (known_second relation a b) m
second_kept relation.Equal a b n m h k e = either (clashes a b == 0) (known_both a b) b m (both_contain a b m (subst (λ x. KnownContains a x) e h) k) k
second_kept relation.NotEqual a b n m h k e = k
second_kept relation.Greater a b n m h k e = k
second_kept relation.GreaterOrEqual a b n m h k e = k
second_kept relation.Disjoint a b n m h k e = k
second_kept relation.Overlapping a b n m h k e = k

fixed_by : (v u n w t : ℕ) → w < 2 → t < 2 → Place v u n → (t ≡ 0 → n ≡ w) → (t ≡ 0) ⊎ (t ≡ 0 → ⊥) → Place (max (min v t) (w - t)) (min u t) n
fixed_by v u n w t x y p h (inl e) = let k = h e in record { apart = omega arith; from = omega arith; upto = omega arith }
fixed_by v u n w t x y p h (inr e) =
    let one : t ≡ 1 = omega arith in
    let a = p.apart in
    let b = p.from in
    let c = p.upto in
    record { apart = omega arith; from = omega arith; upto = omega arith }

pub fixed_kept : (a bits : Bits) (n : ℕ) → KnownContains a n → Agrees bits.value bits.unknown n → KnownContains (known_fixed a bits) n
fixed_kept a bits n h k =
    from_places (known_fixed a bits) n h.1.0
    (λ i. simp (bit_of_and, bit_of_or, bit_of_without)
    (fixed_by _ _ _ (bit bits.value i) (bit bits.unknown i) (bit_small bits.value i) (bit_small bits.unknown i) (places a n h i)
    (λ e. bit_is n i ∙ k.1 i (sym (bit_is bits.unknown i) ∙ e) ∙ sym (bit_is bits.value i))
    (cases_eq (bit bits.unknown i) 0)))
