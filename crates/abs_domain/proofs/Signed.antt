-- What signed operations and shifts on 64 bits make of sign-extended halves.
use Rattle.std.proofs.Common.{◌≡◌, ℕ, suc, pos, negsuc, ◌-◌, ◌^◌, ◌<◌, ◌==◌, Bool, true, false, cond, arith, refl, sym, ap, ◌∙◌}
use Rattle.std.proofs.Math.Nat.{mod-eq_of_lt}
use Rattle.std.proofs.lemmas.Bool.{ltb-true, ltb-false, lt-ltb, le-ltb, eqb-true, eqb-false}
use Rattle.std.specs.Prelude.{nat_lt, int_div, int_rem}
use Rattle.bpf_profile.specs.Words.{low, signed, word_of, sign_extended, arithmetic}
use Rattle.bpf_profile.specs.declared.instruction.Operation.TheVariants as operation
use Rattle.bpf_profile.specs.declared.instruction.Width.TheVariants as width
use Rattle.abs_domain.proofs.Halves.{half_small, half_half, half_of_low}

-- the word of a signed reading of 32 bits, by whether its sign is clear
abbrev extended_by : Bool → ℕ → ℕ
extended_by clear x = word_of (cond clear (pos x) (negsuc (2 ^ 32 - suc x)))

extended_fits : (clear : Bool) (x : ℕ) → x < 2 ^ 32 → extended_by clear x < 2 ^ 64
extended_fits true x h = omega (arith, h)
extended_fits false x h = omega arith

-- the signed reading of a word
reading : (w : ℕ) (clear : Bool) → nat_lt w (2 ^ 63) ≡ clear → w < 2 ^ 64 → signed 64 w ≡ cond clear (pos w) (negsuc (2 ^ 64 - suc w))
reading w clear e h =
    let same : low 64 w ≡ w = mod-eq_of_lt h in
    (λ i. cond (nat_lt (same i) (2 ^ 63)) (pos (same i)) (negsuc (2 ^ 64 - suc (same i)))) ∙ ap (λ t. cond t (pos w) (negsuc (2 ^ 64 - suc w))) e

-- read as 64 bits it is the same number
reads_same : (clear : Bool) (x : ℕ) → nat_lt x (2 ^ 31) ≡ clear → x < 2 ^ 32 → signed 64 (extended_by clear x) ≡ cond clear (pos x) (negsuc (2 ^ 32 - suc x))
reads_same true x e h = reading x true (lt-ltb x (2 ^ 63) (let p = ltb-true x (2 ^ 31) e in omega (arith, p))) (omega (arith, h))
reads_same false x e h =
    let p = ltb-false x (2 ^ 31) e in
    reading (2 ^ 64 - suc (2 ^ 32 - suc x)) false (le-ltb (2 ^ 64 - suc (2 ^ 32 - suc x)) (2 ^ 63) (omega (arith, p, h))) (omega arith) ∙ ap negsuc (omega (arith, p, h))

pub extended_is_word : (n : ℕ) → sign_extended 32 n < 2 ^ 64
extended_is_word n = extended_fits (nat_lt (low 32 n) (2 ^ 31)) (low 32 n) (half_small n)

pub extended_low : (n : ℕ) → low 64 (sign_extended 32 n) ≡ sign_extended 32 n
extended_low n = mod-eq_of_lt (extended_is_word n)

pub signed_extended : (n : ℕ) → signed 64 (low 64 (sign_extended 32 n)) ≡ signed 32 n
signed_extended n = ap (signed 64) (extended_low n) ∙ reads_same (nat_lt (low 32 n) (2 ^ 31)) (low 32 n) refl (half_small n)

pub signed_half : (n : ℕ) → signed 32 (low 32 n) ≡ signed 32 n
signed_half n = ap (λ x. cond (nat_lt x (2 ^ 31)) (pos x) (negsuc (2 ^ 32 - suc x))) (half_half n)

-- the low half of a sign-extended half is the half
half_of_extended_by : (clear : Bool) (x : ℕ) → x < 2 ^ 32 → low 32 (extended_by clear x) ≡ x
half_of_extended_by true x h = mod-eq_of_lt h
half_of_extended_by false x h = omega (arith, h)

pub half_of_extended : (n : ℕ) → low 32 (sign_extended 32 n) ≡ low 32 n
half_of_extended n = half_of_extended_by (nat_lt (low 32 n) (2 ^ 31)) (low 32 n) (half_small n)

-- it is 0 where the half is
zero_alike_by : (w x : ℕ) (s t : Bool) → low 32 w ≡ x → (x ≡ 0 → w ≡ 0) → (w == 0) ≡ s → (x == 0) ≡ t → s ≡ t
zero_alike_by w x true true half back p q = refl
zero_alike_by w x true false half back p q = absurd (eqb-false x 0 q (sym half ∙ ap (low 32) (eqb-true w 0 p)))
zero_alike_by w x false true half back p q = absurd (eqb-false w 0 p (back (eqb-true x 0 q)))
zero_alike_by w x false false half back p q = refl

extended_zero : (clear : Bool) (x : ℕ) → nat_lt x (2 ^ 31) ≡ clear → x ≡ 0 → extended_by clear x ≡ 0
extended_zero true x e h = h
extended_zero false x e h = let p = ltb-false x (2 ^ 31) e in absurd (omega (arith, p, h))

pub zero_alike : (n : ℕ) → (low 64 (sign_extended 32 n) == 0) ≡ (low 32 n == 0)
zero_alike n =
    ap (λ w. w == 0) (extended_low n)
    ∙ zero_alike_by (sign_extended 32 n) (low 32 n) (sign_extended 32 n == 0) (low 32 n == 0) (half_of_extended n) (extended_zero (nat_lt (low 32 n) (2 ^ 31)) (low 32 n) refl) refl refl

-- the low half of a test's outcome
half_of_test : (test : Bool) (a b : ℕ) → low 32 (cond test a b) ≡ cond test (low 32 a) (low 32 b)
half_of_test true a b = refl
half_of_test false a b = refl

pub half_signed_quotient : (n m : ℕ) → low 32 (arithmetic operation.SignedDivide width.Bits64 (sign_extended 32 n) (sign_extended 32 m)) ≡ arithmetic operation.SignedDivide width.Bits32 n m
half_signed_quotient n m =
    half_of_test (low 64 (sign_extended 32 m) == 0) 0 (low 64 (word_of (int_div (signed 64 (low 64 (sign_extended 32 n))) (signed 64 (low 64 (sign_extended 32 m))))))
    ∙ ap (λ x. cond (low 64 (sign_extended 32 m) == 0) 0 x) (half_of_low (word_of (int_div (signed 64 (low 64 (sign_extended 32 n))) (signed 64 (low 64 (sign_extended 32 m))))))
    ∙ (λ i. cond (zero_alike m i) 0 (low 32 (word_of (int_div (signed_extended n i) (signed_extended m i)))))
    ∙ (λ i. cond (low 32 m == 0) 0 (low 32 (word_of (int_div (sym (signed_half n) i) (sym (signed_half m) i)))))

pub half_signed_remainder : (n m : ℕ) → low 32 (arithmetic operation.SignedModulo width.Bits64 (sign_extended 32 n) (sign_extended 32 m)) ≡ arithmetic operation.SignedModulo width.Bits32 n m
half_signed_remainder n m =
    half_of_test (low 64 (sign_extended 32 m) == 0) (low 64 (sign_extended 32 n)) (low 64 (word_of (int_rem (signed 64 (low 64 (sign_extended 32 n))) (signed 64 (low 64 (sign_extended 32 m))))))
    ∙ (λ i. cond (low 64 (sign_extended 32 m) == 0) (half_of_low (sign_extended 32 n) i) (half_of_low (word_of (int_rem (signed 64 (low 64 (sign_extended 32 n))) (signed 64 (low 64 (sign_extended 32 m))))) i))
    ∙ (λ i. cond (zero_alike m i) (half_of_extended n i) (low 32 (word_of (int_rem (signed_extended n i) (signed_extended m i)))))
    ∙ (λ i. cond (low 32 m == 0) (low 32 n) (low 32 (word_of (int_rem (sym (signed_half n) i) (sym (signed_half m) i)))))
