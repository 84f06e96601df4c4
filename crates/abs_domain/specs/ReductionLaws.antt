-- A reduction loses no word.
use Rattle.std.proofs.Common.{◌≡◌, ℕ, zero, suc, ◌+◌, ◌-◌, ◌/◌, ◌%◌, ◌^◌, ◌<◌, ◌≤◌, ◌⊎◌, inl, inr, min, max, Bool, true, false, cond, arith, refl, sym, ap, ◌∙◌, subst}
use lib.Pow.{shr_mono, shr-shr}
use Rattle.std.proofs.lemmas.Bool.{cases_lt}
use Rattle.std.proofs.lemmas.Bool.{ltb-true}
use Rattle.std.proofs.lemmas.Nat.{and_le_r, leading_length, xor_lt}
use Rattle.std.proofs.lemmas.Nat.Bits.{bit_at_and, bit_at_or, bit_at_xor, bit_at-lt, bit_at_ones, bit_at_above, same_from_bits}
use Rattle.std.specs.Int.{bit_at, leading_zeros, w64}
use Rattle.std.specs.Prelude.{◌&&◌, ◌||◌, nat_le, nat_lt, bit_and, bit_or, bit_xor}
use Rattle.bpf_profile.specs.Words.{IsWord}
use Rattle.abs_domain.specs.Agreement.{Agrees}
use Rattle.abs_domain.specs.declared.operations.Bits.{Bits}
use Rattle.abs_domain.specs.declared.operations.Bounds.{Bounds}
use Rattle.abs_domain.specs.Reduction.{agree, common_bounds, narrowed, leading, is_consistent, reduced_first, reduced_second}

-- a number whose bits another one has is not above it
below : (a b : ℕ) → ((i : ℕ) → bit_at a i ≤ bit_at b i) → a ≤ b
below a b h =
    let same : bit_and a b ≡ a = same_from_bits (bit_and a b) a (λ i. bit_at_and a b i ∙ omega (arith, h i)) in
    subst (λ x. x ≤ b) same (and_le_r a b)

bits_of_zero : (i : ℕ) → bit_at 0 i ≡ 0
bits_of_zero i = omega arith

bit_least_by : (v u n : ℕ) → v < 2 → min v u ≡ 0 → (u ≡ 0 → n ≡ v) → v ≤ n
bit_least_by v zero n small apart agrees = omega (arith, agrees refl)
bit_least_by v (suc u) n small apart agrees = omega arith

bit_most_by : (v u n : ℕ) → n < 2 → (u ≡ 0 → n ≡ v) → n ≤ max v u
bit_most_by v zero n small agrees = omega (arith, agrees refl)
bit_most_by v (suc u) n small agrees = omega arith

-- of two bits that are not both 1, the first is not above a bit that agrees with it
bit_least : (value unknown n i : ℕ) → bit_at (bit_and value unknown) i ≡ bit_at 0 i → (bit_at unknown i ≡ 0 → bit_at n i ≡ bit_at value i) → bit_at value i ≤ bit_at n i
bit_least value unknown n i apart agrees = bit_least_by (bit_at value i) (bit_at unknown i) (bit_at n i) (bit_at-lt value i) (sym (bit_at_and value unknown i) ∙ apart ∙ bits_of_zero i) agrees

-- where the value has no unknown bit, the words that agree with it are at least it
at_least : (value unknown n : ℕ) → bit_and value unknown ≡ 0 → Agrees value unknown n → value ≤ n
at_least value unknown n apart agrees = below value n (λ i. bit_least value unknown n i (ap (λ x. bit_at x i) apart) (agrees.1 i))

at_most : (value unknown n : ℕ) → Agrees value unknown n → n ≤ bit_or value unknown
at_most value unknown n agrees = below n (bit_or value unknown) (λ i. subst (λ x. bit_at n i ≤ x) (sym (bit_at_or value unknown i)) (bit_most_by (bit_at value i) (bit_at unknown i) (bit_at n i) (bit_at-lt n i) (agrees.1 i)))

narrowed_keeps : (bounds : Bounds) (bits : Bits) (n : ℕ) → bounds.low ≤ n → n ≤ bounds.high → bit_and bits.value bits.unknown ≡ 0 → Agrees bits.value bits.unknown n
    → ((narrowed bounds bits).low ≤ n) × (n ≤ (narrowed bounds bits).high)
narrowed_keeps bounds bits n p q apart agrees =
    let r = at_least bits.value bits.unknown n apart agrees in
    let s = at_most bits.value bits.unknown n agrees in
    (omega (arith, p, r), omega (arith, q, s))

bit_shifted : (n k i : ℕ) → bit_at (n / 2 ^ k) i ≡ bit_at n (k + i)
bit_shifted n k i = ap (λ x. x % 2) (shr-shr n k i)

sum_even : (x y : ℕ) → x < 2 → y < 2 → (x + y) % 2 ≡ 0 → x ≡ y
sum_even x y p q e = omega (arith, e, p, q)

bit_same : (k a b i : ℕ) → bit_at (bit_xor a b) (k + i) ≡ 0 → bit_at (a / 2 ^ k) i ≡ bit_at (b / 2 ^ k) i
bit_same k a b i clear =
    let same = sum_even (bit_at a (k + i)) (bit_at b (k + i)) (bit_at-lt a (k + i)) (bit_at-lt b (k + i)) (sym (bit_at_xor a b (k + i)) ∙ clear) in
    bit_shifted a k i ∙ same ∙ sym (bit_shifted b k i)

-- words that differ in their low bits alone are the same without them
same_above : (k a b : ℕ) → bit_xor a b < 2 ^ k → a / 2 ^ k ≡ b / 2 ^ k
same_above k a b h = same_from_bits (a / 2 ^ k) (b / 2 ^ k) (λ i. bit_same k a b i (bit_at_above (bit_xor a b) k (k + i) h (omega arith)))

-- so a word between them is, too
between : (k a b n : ℕ) → bit_xor a b < 2 ^ k → a ≤ n → n ≤ b → n / 2 ^ k ≡ a / 2 ^ k
between k a b n h p q = omega (arith, same_above k a b h, shr_mono k p, shr_mono k q)

leading_from : (k a n i : ℕ) → n / 2 ^ k ≡ a / 2 ^ k → k ≤ i → bit_at n i ≡ bit_at a i
leading_from k a n i same from =
    let split : k + (i - k) ≡ i = omega (arith, from) in
    subst (λ j. bit_at n j ≡ bit_at a j) split (sym (bit_shifted n k (i - k)) ∙ ap (λ x. bit_at x (i - k)) same ∙ bit_shifted a k (i - k))

leading_by : (k a b n i : ℕ) → bit_xor a b < 2 ^ k → a ≤ n → n ≤ b → bit_at (2 ^ k - 1) i ≡ 0 → (i < k) ⊎ (k ≤ i) → bit_at n i ≡ bit_at a i
leading_by k a b n i h p q clear (inl low) = absurd (omega (arith, clear, bit_at_ones k i low))
leading_by k a b n i h p q clear (inr high) = leading_from k a n i (between k a b n h p q) high

-- the words in bounds have the leading bits of the bounds
pub leading_agrees : (bounds : Bounds) (n : ℕ) → IsWord bounds.low → IsWord n → IsWord bounds.high → bounds.low ≤ n → n ≤ bounds.high → Agrees (leading bounds).value (leading bounds).unknown n
leading_agrees bounds n a w b p q =
    let length = leading_length 64 (bit_xor bounds.low bounds.high) (xor_lt 64 bounds.low bounds.high a b) in
    let k : 64 - leading_zeros w64 (bit_xor bounds.low bounds.high) ≡ length.0 = omega (arith, length.1) in
    let h : bit_xor bounds.low bounds.high < 2 ^ (64 - leading_zeros w64 (bit_xor bounds.low bounds.high)) = subst (λ x. bit_xor bounds.low bounds.high < 2 ^ x) (sym k) length.2 in
    (w, λ i clear. leading_by (64 - leading_zeros w64 (bit_xor bounds.low bounds.high)) bounds.low bounds.high n i h p q clear (cases_lt i (64 - leading_zeros w64 (bit_xor bounds.low bounds.high))))

first_by : {X : Type 0} (in_x : X → ℕ → Type 0) (t : Bool) (x y : X) (n : ℕ) → in_x x n → in_x y n → in_x (cond t x y) n
first_by in_x true x y n h k = h
first_by in_x false x y n h k = k

second_by : {Y : Type 0} (in_y : Y → ℕ → Type 0) (t s : Bool) (x y : Y) (n : ℕ) → t ≡ s → (t ≡ true → in_y x n) → in_y y n → in_y (cond s x y) n
second_by in_y t true x y n e h k = h e
second_by in_y t false x y n e h k = k

not_true : false ≡ true → ⊥
not_true e = subst (λ b. cond b ⊥ (Unit {0})) e tt

first_true : (p q : Bool) → (p && q) ≡ true → p ≡ true
first_true true q e = refl
first_true false q e = absurd (not_true e)

second_true : (p q : Bool) → (p && q) ≡ true → q ≡ true
second_true true q e = e
second_true false q e = absurd (not_true e)

-- bounds of which some word may be are words
consistent_is_word : (p r : Bool) (h : ℕ) → (p && nat_lt h (2 ^ 64) && r) ≡ true → h < 2 ^ 64
consistent_is_word p r h e = ltb-true h (2 ^ 64) (second_true p (nat_lt h (2 ^ 64)) (first_true (p && nat_lt h (2 ^ 64)) r e))

-- what both contain is still contained when each is reduced by the other
pub reduction_keeps : {X Y : Type 0} (in_x : X → ℕ → Type 0) (in_y : Y → ℕ → Type 0) (bounds_of : X → Bounds) (clamped : X → Bounds → X) (bits_of : Y → Bits) (fixed : Y → Bits → Y)
    → ((x : X) (n : ℕ) → in_x x n → IsWord n)
    → ((x : X) (n : ℕ) → in_x x n → ((bounds_of x).low ≤ n) × (n ≤ (bounds_of x).high))
    → ((y : Y) (n : ℕ) → in_y y n → bit_and (bits_of y).value (bits_of y).unknown ≡ 0)
    → ((y : Y) (n : ℕ) → in_y y n → Agrees (bits_of y).value (bits_of y).unknown n)
    → ((x : X) (bounds : Bounds) (n : ℕ) → in_x x n → bounds.low ≤ n → n ≤ bounds.high → in_x (clamped x bounds) n)
    → ((y : Y) (bits : Bits) (n : ℕ) → in_y y n → Agrees bits.value bits.unknown n → in_y (fixed y bits) n)
    → (x : X) (y : Y) (n : ℕ) → in_x x n → in_y y n
    → in_x (reduced_first clamped x (bounds_of x) (bits_of y)) n × in_y (reduced_second fixed y (bounds_of x) (bits_of y)) n
reduction_keeps in_x in_y bounds_of clamped bits_of fixed words bounds_hold apart bits_hold clamping fixing x y n h k =
    let bounds = bounds_of x in
    let bits = bits_of y in
    let inside = bounds_hold x n h in
    let kept = narrowed_keeps (bounds_of x) (bits_of y) n inside.0 inside.1 (apart y n k) (bits_hold y n k) in
    let small : (narrowed (bounds_of x) (bits_of y)).low < 2 ^ 64 = omega (arith, kept.0, words x n h) in (
      first_by in_x (is_consistent (bounds_of x) (bits_of y)) (clamped x (narrowed (bounds_of x) (bits_of y))) x n (clamping x (narrowed (bounds_of x) (bits_of y)) n h kept.0 kept.1) h,
      second_by in_y (is_consistent (bounds_of x) (bits_of y)) (is_consistent (bounds_of x) (bits_of y)) (fixed y (leading (narrowed (bounds_of x) (bits_of y)))) y n refl
          (λ e. fixing y (leading (narrowed (bounds_of x) (bits_of y))) n k (leading_agrees (narrowed (bounds_of x) (bits_of y)) n small (words x n h) (consistent_is_word (nat_le (narrowed (bounds_of x) (bits_of y)).low (narrowed (bounds_of x) (bits_of y)).high) (agree (bits_of y) (leading (narrowed (bounds_of x) (bits_of y)))) (narrowed (bounds_of x) (bits_of y)).high e) kept.0 kept.1)) k,
    )

common_by : (t : Bool) (a b : Bounds) (n : ℕ) → (a.low ≤ n) × (n ≤ a.high) → (b.low ≤ n) × (n ≤ b.high) → ((cond t b a).low ≤ n) × (n ≤ (cond t b a).high)
common_by true a b n h k = k
common_by false a b n h k = h

pub common_bounds_hold : (a b : Bounds) (n : ℕ) → (a.low ≤ n) × (n ≤ a.high) → (b.low ≤ n) × (n ≤ b.high) → ((common_bounds a b).low ≤ n) × (n ≤ (common_bounds a b).high)
common_bounds_hold a b n h k = common_by (nat_le (max a.low b.low) (min a.high b.high)) a (record { low = max a.low b.low; high = min a.high b.high }) n h (omega (arith, h.0, k.0), omega (arith, h.1, k.1))

-- what follows from each of two tests follows from either
pub either_holds : {P : Type 0} (s t : Bool) → (s || t) ≡ true → (s ≡ true → P) → (t ≡ true → P) → P
either_holds true t e p q = p refl
either_holds false t e p q = q e
