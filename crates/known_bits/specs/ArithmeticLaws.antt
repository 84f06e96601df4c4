-- Sums, differences, products, quotients and remainders of words whose bits are partly known.
use Rattle.std.proofs.Common.{◌≡◌, ℕ, zero, suc, ◌+◌, ◌-◌, ◌*◌, ◌/◌, ◌%◌, ◌^◌, ◌<◌, ◌≤◌, ◌==◌, max, ◌⊎◌, inl, inr, refl, sym, ap, ◌∙◌, subst, arith, Bool, true, false, cond}
use Rattle.std.specs.Prelude.{bit_or}
use Rattle.std.specs.Int.Count.{count_trailing_zeros, under}
use Rattle.std.proofs.Math.Nat.{add-mod-mod, mod-add-mod, add-mul-mod_self_left, mul-le-mul_left}
use Rattle.std.proofs.lemmas.Bool.{cases_lt, eqb-true}
use Rattle.std.proofs.lemmas.Nat.{mod_below, mul-mod, pow_pos, trailing_le}
use Rattle.std.proofs.lemmas.Nat.Bits.{bit_at_lowest, bit_at-suc}
use Rattle.bpf_profile.specs.Words.{IsWord}
use Rattle.abs_domain.specs.OperationLaws.{operation_fits}
use Rattle.abs_domain.specs.Operations.{word_operation}
use Rattle.abs_domain.specs.declared.operations.Binary.{Binary}
use Rattle.abs_domain.specs.declared.operations.Binary.TheVariants as binary
use Rattle.abs_domain.specs.declared.operations.Bits.{Bits}
use Rattle.known_bits.specs.BitLaws.{bit, bit_is, bit_small, bit_above, bit_of_low, bit_of_low_above, bit_of_or, bit_of_mask_inside, bit_of_mask_below, bit_of_mask_above, same_bits}
use Rattle.known_bits.specs.BoundLaws.{word_contained, any_contains}
use Rattle.known_bits.specs.KnownBitsTable.{KnownContains, known_word, known_any, known_low, low_bits, if_words}
use Rattle.known_bits.specs.PlaceLaws.{Place, places, from_places}
use lib.Pow.{mod-mod-pow}

under_none : (digit count i : ℕ) → i < under digit count → digit ≡ 0
under_none zero count i h = refl
under_none (suc digit) count i h = absurd (omega arith)

under_fewer : (digit count i : ℕ) → suc i < under digit count → i < count
under_fewer zero count i h = omega arith
under_fewer (suc digit) count i h = absurd (omega arith)

-- the bits below the lowest 1 are 0
trailing_clear : (k n i : ℕ) → i < count_trailing_zeros k n → bit n i ≡ 0
unfolding count_trailing_zeros
trailing_clear zero n i h = absurd (omega arith)
trailing_clear (suc k) n zero h = bit_is n 0 ∙ bit_at_lowest n ∙ under_none (n % 2) (count_trailing_zeros k (n / 2)) 0 h
trailing_clear (suc k) n (suc i) h =
    bit_is n (suc i) ∙ bit_at-suc n i ∙ sym (bit_is (n / 2) i) ∙ trailing_clear k (n / 2) i (under_fewer (n % 2) (count_trailing_zeros k (n / 2)) i h)

neither : (u t : ℕ) → max u t ≡ 0 → (u ≡ 0) × (t ≡ 0)
neither u t e = (omega arith, omega arith)

-- where neither is unknown, both are known
both_known : (a b : Bits) (i : ℕ) → bit (bit_or a.unknown b.unknown) i ≡ 0 → (bit a.unknown i ≡ 0) × (bit b.unknown i ≡ 0)
both_known a b i e = neither (bit a.unknown i) (bit b.unknown i) (sym (bit_of_or a.unknown b.unknown i) ∙ e)

known_place : (v u n : ℕ) → Place v u n → u ≡ 0 → n ≡ v
known_place v u n p e =
    let f = p.from in
    let t = p.upto in
    omega arith

-- numbers with the same low bits are equal, modulo a power of two
same_low : (count x y : ℕ) → ((i : ℕ) → i < count → bit x i ≡ bit y i) → x % 2 ^ count ≡ y % 2 ^ count
same_low count x y h = same_bits (x % 2 ^ count) (y % 2 ^ count) (λ i. at i (cases_lt i count))
  where
    at : (i : ℕ) → (i < count) ⊎ (count ≤ i) → bit (x % 2 ^ count) i ≡ bit (y % 2 ^ count) i
    at i (inl p) = bit_of_low x count i p ∙ h i p ∙ sym (bit_of_low y count i p)
    at i (inr q) = bit_of_low_above x count i q ∙ sym (bit_of_low_above y count i q)

first_same : (a b : Bits) (n : ℕ) → KnownContains a n → n % 2 ^ known_low a b ≡ a.value % 2 ^ known_low a b
first_same a b n h =
    same_low (known_low a b) n a.value (λ i p. known_place _ _ _ (places a n h i) (both_known a b i (trailing_clear 64 (bit_or a.unknown b.unknown) i p)).0)

second_same : (a b : Bits) (m : ℕ) → KnownContains b m → m % 2 ^ known_low a b ≡ b.value % 2 ^ known_low a b
second_same a b m h =
    same_low (known_low a b) m b.value (λ i p. known_place _ _ _ (places b m h i) (both_known a b i (trailing_clear 64 (bit_or a.unknown b.unknown) i p)).1)

-- a word with the low bits of a result is contained
low_contained : (count r s : ℕ) → count ≤ 64 → IsWord s → s % 2 ^ count ≡ r % 2 ^ count → KnownContains (low_bits count r) s
low_contained count r s few fits e = from_places (low_bits count r) s fits (λ i. at i (cases_lt i count) (cases_lt i 64))
  where
    at : (i : ℕ) → (i < count) ⊎ (count ≤ i) → (i < 64) ⊎ (64 ≤ i) → Place (bit (r % 2 ^ count) i) (bit (2 ^ 64 - 2 ^ count) i) (bit s i)
    at i (inl p) _ =
        let known = bit_of_mask_below count i p in
        let same : bit s i ≡ bit (r % 2 ^ count) i = sym (bit_of_low s count i p) ∙ ap (λ x. bit x i) e in
        let small = bit_small s i in
        record { apart = omega arith; from = omega arith; upto = omega arith }
    at i (inr q) (inl p) =
        let unknown = bit_of_mask_inside count i q p in
        let none = bit_of_low_above r count i q in
        let small = bit_small s i in
        record { apart = omega arith; from = omega arith; upto = omega arith }
    at i (inr q) (inr p) =
        let known = bit_of_mask_above count i p in
        let none = bit_of_low_above r count i q in
        let above = bit_above s 64 i fits p in
        record { apart = omega arith; from = omega arith; upto = omega arith }

-- a result is a word before its low bits are taken
within_word : (count x : ℕ) → count ≤ 64 → x % 2 ^ 64 % 2 ^ count ≡ x % 2 ^ count
within_word count x few =
    let e : 64 - count + count ≡ 64 = omega arith in
    subst (λ w. x % 2 ^ w % 2 ^ count ≡ x % 2 ^ count) e (mod-mod-pow x (64 - count) count)

sum_same : (k x y z w : ℕ) → x % k ≡ y % k → z % k ≡ w % k → (x + z) % k ≡ (y + w) % k
sum_same k x y z w e f = sym (mod-add-mod x k z) ∙ sym (add-mod-mod (x % k) z k) ∙ (λ i. (e i + f i) % k) ∙ add-mod-mod (y % k) w k ∙ mod-add-mod y k w

product_same : (k x y z w : ℕ) → x % k ≡ y % k → z % k ≡ w % k → (x * z) % k ≡ (y * w) % k
product_same k x y z w e f = mul-mod x z k ∙ (λ i. (e i * f i) % k) ∙ sym (mul-mod y w k)

-- what is added to equal sums, modulo k, may be taken off again
cancelled : (k x y z : ℕ) → 0 < k → (x + z) % k ≡ (y + z) % k → x % k ≡ y % k
cancelled k x y z some e = sym (restored x) ∙ ap (λ s. (s + (k * z - z)) % k) e ∙ restored y
  where
    restored : (s : ℕ) → ((s + z) % k + (k * z - z)) % k ≡ s % k
    restored s =
        let whole : z * 1 ≤ z * k = mul-le-mul_left z some in
        let sum : s + z + (k * z - z) ≡ s + k * z = omega arith in
        mod-add-mod (s + z) k (k * z - z) ∙ ap (λ r. r % k) sum ∙ add-mul-mod_self_left s k z

difference_same : (k x y z w : ℕ) → 0 < k → z < 2 ^ 64 → w < 2 ^ 64 → x % k ≡ y % k → z % k ≡ w % k → (x + (2 ^ 64 - z)) % k ≡ (y + (2 ^ 64 - w)) % k
difference_same k x y z w some fits less e f = sum_same k x y (2 ^ 64 - z) (2 ^ 64 - w) e rest
  where
    total : 2 ^ 64 - z + z ≡ 2 ^ 64 - w + w
    total = omega arith

    rest : (2 ^ 64 - z) % k ≡ (2 ^ 64 - w) % k
    rest = cancelled k (2 ^ 64 - z) (2 ^ 64 - w) z some (ap (λ s. s % k) total ∙ sum_same k (2 ^ 64 - w) (2 ^ 64 - w) w z refl (sym f))

-- of operands that agree in their low bits
words_same : (count x y : ℕ) → count ≤ 64 → x % 2 ^ count ≡ y % 2 ^ count → x % 2 ^ 64 % 2 ^ count ≡ y % 2 ^ 64 % 2 ^ count
words_same count x y few e = within_word count x few ∙ e ∙ sym (within_word count y few)

sums : (count n m v w : ℕ) → count ≤ 64 → n % 2 ^ count ≡ v % 2 ^ count → m % 2 ^ count ≡ w % 2 ^ count
    → word_operation binary.Add n m % 2 ^ count ≡ word_operation binary.Add v w % 2 ^ count
sums count n m v w few e f =
    words_same count (n % 2 ^ 64 + m % 2 ^ 64) (v % 2 ^ 64 + w % 2 ^ 64) few
    (sum_same (2 ^ count) (n % 2 ^ 64) (v % 2 ^ 64) (m % 2 ^ 64) (w % 2 ^ 64) (words_same count n v few e) (words_same count m w few f))

differences : (count n m v w : ℕ) → count ≤ 64 → n % 2 ^ count ≡ v % 2 ^ count → m % 2 ^ count ≡ w % 2 ^ count
    → word_operation binary.Subtract n m % 2 ^ count ≡ word_operation binary.Subtract v w % 2 ^ count
differences count n m v w few e f =
    words_same count (n % 2 ^ 64 + (2 ^ 64 - m % 2 ^ 64)) (v % 2 ^ 64 + (2 ^ 64 - w % 2 ^ 64)) few
    (difference_same (2 ^ count) (n % 2 ^ 64) (v % 2 ^ 64) (m % 2 ^ 64) (w % 2 ^ 64) (pow_pos count)
    (mod_below m (2 ^ 64) (pow_pos 64)) (mod_below w (2 ^ 64) (pow_pos 64)) (words_same count n v few e) (words_same count m w few f))

products : (count n m v w : ℕ) → count ≤ 64 → n % 2 ^ count ≡ v % 2 ^ count → m % 2 ^ count ≡ w % 2 ^ count
    → word_operation binary.Multiply n m % 2 ^ count ≡ word_operation binary.Multiply v w % 2 ^ count
products count n m v w few e f =
    words_same count (n % 2 ^ 64 * (m % 2 ^ 64)) (v % 2 ^ 64 * (w % 2 ^ 64)) few
    (product_same (2 ^ count) (n % 2 ^ 64) (v % 2 ^ 64) (m % 2 ^ 64) (w % 2 ^ 64) (words_same count n v few e) (words_same count m w few f))

-- an operation whose low bits follow from those of its operands
low_operation : (operation : Binary)
    → ((count n m v w : ℕ) → count ≤ 64 → n % 2 ^ count ≡ v % 2 ^ count → m % 2 ^ count ≡ w % 2 ^ count → word_operation operation n m % 2 ^ count ≡ word_operation operation v w % 2 ^ count)
    → (a b : Bits) (n m : ℕ) → KnownContains a n → KnownContains b m
    → KnownContains (low_bits (known_low a b) (word_operation operation a.value b.value)) (word_operation operation n m)
low_operation operation follows a b n m h k =
    low_contained (known_low a b) (word_operation operation a.value b.value) (word_operation operation n m) (trailing_le 64 (bit_or a.unknown b.unknown)) (operation_fits operation n m)
    (follows (known_low a b) n m a.value b.value (trailing_le 64 (bit_or a.unknown b.unknown)) (first_same a b n h) (second_same a b m k))

pub sum_contained : (a b : Bits) (n m : ℕ) → KnownContains a n → KnownContains b m → KnownContains (low_bits (known_low a b) (word_operation binary.Add a.value b.value)) (word_operation binary.Add n m)
sum_contained = low_operation binary.Add sums

pub difference_contained : (a b : Bits) (n m : ℕ) → KnownContains a n → KnownContains b m → KnownContains (low_bits (known_low a b) (word_operation binary.Subtract a.value b.value)) (word_operation binary.Subtract n m)
difference_contained = low_operation binary.Subtract differences

pub product_contained : (a b : Bits) (n m : ℕ) → KnownContains a n → KnownContains b m → KnownContains (low_bits (known_low a b) (word_operation binary.Multiply a.value b.value)) (word_operation binary.Multiply n m)
product_contained = low_operation binary.Multiply products

-- a value with no unknown bit contains one word
wholly : (a : Bits) (n : ℕ) → KnownContains a n → ((i : ℕ) → bit a.unknown i ≡ 0) → n ≡ a.value
wholly a n h e = same_bits n a.value (λ i. known_place _ _ _ (places a n h i) (e i))

words_by : (test : Bool) (operation : Binary) (a b : Bits) (n m : ℕ) → (bit_or a.unknown b.unknown == 0) ≡ test → KnownContains a n → KnownContains b m
    → KnownContains (cond test (known_word (word_operation operation a.value b.value)) known_any) (word_operation operation n m)
words_by true operation a b n m is h k =
    let none : (i : ℕ) → bit (bit_or a.unknown b.unknown) i ≡ 0 = λ i. ap (λ x. bit x i) (eqb-true (bit_or a.unknown b.unknown) 0 is) ∙ bit_above 0 0 i (omega arith) (omega arith) in
    let first = wholly a n h (λ i. (both_known a b i (none i)).0) in
    let second = wholly b m k (λ i. (both_known a b i (none i)).1) in
    let same : word_operation operation n m ≡ word_operation operation a.value b.value = λ i. word_operation operation (first i) (second i) in
    subst (λ x. KnownContains (known_word (word_operation operation a.value b.value)) x) (sym same) (word_contained (word_operation operation a.value b.value) (operation_fits operation a.value b.value))
words_by false operation a b n m is h k = any_contains (word_operation operation n m) (operation_fits operation n m)

pub words_contained : (operation : Binary) (a b : Bits) (n m : ℕ) → KnownContains a n → KnownContains b m
    → KnownContains (if_words a b (word_operation operation a.value b.value)) (word_operation operation n m)
words_contained operation a b n m h k = words_by (bit_or a.unknown b.unknown == 0) operation a b n m refl h k
