-- The laws of joins: they contain what either contains, in any order.
use Rattle.std.proofs.Common.{◌≡◌, ℕ, ◌+◌, ◌-◌, ◌%◌, ◌<◌, ◌==◌, max, refl, arith, Bool, true, ◌&&◌, zero, suc, not-suc-le-zero, le_of_suc-le-suc}
use Rattle.std.proofs.lemmas.Bool.{and_parts, eqb-true}
use Rattle.abs_domain.specs.declared.operations.Bits.{Bits}
use Rattle.known_bits.specs.BitLaws.{bit, bit_small, bit_of_or, bit_of_xor, bit_of_without, same_bits}
use Rattle.known_bits.specs.KnownBitsTable.{KnownContains, known_join}
use Rattle.known_bits.specs.PlaceLaws.{Place, places, from_places}

first_place : (v u n w t : ℕ) → w < 2 → t < 2 → Place v u n → Place (v - max (max u t) ((v + w) % 2)) (max (max u t) ((v + w) % 2)) n
first_place v u n w t small less p =
    let a = p.apart in
    let b = p.from in
    let c = p.upto in
    record { apart = omega arith; from = omega arith; upto = omega arith }

pub join_first : (a b : Bits) (n : ℕ) → KnownContains a n → KnownContains (known_join a b) n
join_first a b n h =
    from_places (known_join a b) n h.1.0 (λ i. simp (bit_of_xor, bit_of_or, bit_of_without) (first_place _ _ _ (bit b.value i) (bit b.unknown i) (bit_small b.value i) (bit_small b.unknown i) (places a n h i)))

second_place : (v u w t n : ℕ) → v < 2 → u < 2 → Place w t n → Place (v - max (max u t) ((v + w) % 2)) (max (max u t) ((v + w) % 2)) n
second_place v u w t n small less p =
    let a = p.apart in
    let b = p.from in
    let c = p.upto in
    record { apart = omega arith; from = omega arith; upto = omega arith }

pub join_second : (a b : Bits) (n : ℕ) → KnownContains b n → KnownContains (known_join a b) n
join_second a b n h =
    from_places (known_join a b) n h.1.0 (λ i. simp (bit_of_xor, bit_of_or, bit_of_without) (second_place (bit a.value i) (bit a.unknown i) _ _ _ (bit_small a.value i) (bit_small a.unknown i) (places b n h i)))

unknown_symmetric : (v u w t : ℕ) → max (max u t) ((v + w) % 2) ≡ max (max t u) ((w + v) % 2)
unknown_symmetric v u w t = omega arith

value_symmetric : (v u w t : ℕ) → v < 2 → w < 2 → v - max (max u t) ((v + w) % 2) ≡ w - max (max t u) ((w + v) % 2)
value_symmetric v u w t p q = omega arith

pair : (v w u t : ℕ) → v ≡ w → u ≡ t → ◌≡◌ {A = Bits} (record { value = v; unknown = u }) (record { value = w; unknown = t })
pair v w u t e f = λ i. record { value = e i; unknown = f i }

pub join_symmetric : (a b : Bits) → known_join a b ≡ known_join b a
join_symmetric a b =
    pair _ _ _ _
    (same_bits _ _ (λ i. simp (bit_of_xor, bit_of_or, bit_of_without) (value_symmetric (bit a.value i) (bit a.unknown i) (bit b.value i) (bit b.unknown i) (bit_small a.value i) (bit_small b.value i))))
    (same_bits _ _ (λ i. simp (bit_of_xor, bit_of_or) (unknown_symmetric (bit a.value i) (bit a.unknown i) (bit b.value i) (bit b.unknown i))))

bit_cases : (P : ℕ → Type 0) → P 0 → P 1 → (x : ℕ) → x < 2 → P x
bit_cases P p q zero h = p
bit_cases P p q (suc zero) h = q
bit_cases P p q (suc (suc r)) h = absurd (not-suc-le-zero (le_of_suc-le-suc (le_of_suc-le-suc h)))

-- a test of bits holds where it holds of 0 and of 1
abbrev both : (ℕ → Bool) → Bool
both p = p 0 && p 1

both_hold : (p : ℕ → Bool) → both p ≡ true → (x : ℕ) → x < 2 → p x ≡ true
both_hold p h x small = bit_cases (λ y. p y ≡ true) (and_parts (p 0) (p 1) h).0 (and_parts (p 0) (p 1) h).1 x small

-- a test of one place of three values holds where it holds of all bits
abbrev tested : (ℕ → ℕ → Bool) → Bool
tested p = both (λ v. both (λ u. p v u))

tested_holds : (p : ℕ → ℕ → Bool) → tested p ≡ true → (a : Bits) (i : ℕ) → p (bit a.value i) (bit a.unknown i) ≡ true
tested_holds p h a i =
    both_hold (p (bit a.value i)) (both_hold (λ v. both (λ u. p v u)) h (bit a.value i) (bit_small a.value i)) (bit a.unknown i) (bit_small a.unknown i)

three_hold : (p : ℕ → ℕ → ℕ → ℕ → ℕ → ℕ → Bool) → tested (λ v u. tested (λ w t. tested (p v u w t))) ≡ true
    → (a b c : Bits) (i : ℕ) → p (bit a.value i) (bit a.unknown i) (bit b.value i) (bit b.unknown i) (bit c.value i) (bit c.unknown i) ≡ true
three_hold p h a b c i =
    tested_holds (p (bit a.value i) (bit a.unknown i) (bit b.value i) (bit b.unknown i))
    (tested_holds (λ w t. tested (p (bit a.value i) (bit a.unknown i) w t)) (tested_holds (λ v u. tested (λ w t. tested (p v u w t))) h a i) b i)
    c i

abbrev joined_unknown : ℕ → ℕ → ℕ → ℕ → ℕ
joined_unknown v u w t = max (max u t) ((v + w) % 2)

abbrev left_unknown : ℕ → ℕ → ℕ → ℕ → ℕ → ℕ → ℕ
left_unknown v u w t x y = joined_unknown (v - joined_unknown v u w t) (joined_unknown v u w t) x y

abbrev right_unknown : ℕ → ℕ → ℕ → ℕ → ℕ → ℕ → ℕ
right_unknown v u w t x y = joined_unknown v u (w - joined_unknown w t x y) (joined_unknown w t x y)

abbrev unknown_test : ℕ → ℕ → ℕ → ℕ → ℕ → ℕ → Bool
unknown_test v u w t x y = left_unknown v u w t x y == right_unknown v u w t x y

abbrev value_test : ℕ → ℕ → ℕ → ℕ → ℕ → ℕ → Bool
value_test v u w t x y = v - joined_unknown v u w t - left_unknown v u w t x y == v - right_unknown v u w t x y

pub join_associative : (a b c : Bits) → known_join (known_join a b) c ≡ known_join a (known_join b c)
join_associative a b c =
    pair _ _ _ _
    (same_bits _ _ (λ i. simp (bit_of_xor, bit_of_or, bit_of_without) (eqb-true _ _ (three_hold value_test refl a b c i))))
    (same_bits _ _ (λ i. simp (bit_of_xor, bit_of_or, bit_of_without) (eqb-true _ _ (three_hold unknown_test refl a b c i))))
