-- Digits read one after another.
use Rattle.std.proofs.Common.{◌≡◌, refl, sym, ap, ◌∙◌, ℕ, zero, suc, ◌+◌, ◌*◌, ◌^◌, ◌<◌, ◌≤◌, Bool, true, false, cond, ltb, List, [], ◌∷◌, ◌++◌, length, take, get_or, Option, Some, None, arith}
use Rattle.std.specs.Prelude.{option_and_then}
use Rattle.std.specs.Char.{digit_value}
use Rattle.std.specs.Str.Parse.{digits_value}
use Rattle.std.proofs.lemmas.Bool.{ltb-true, ltb-false, lt-ltb, le-ltb, and_parts, and_from}
use Rattle.std.proofs.lemmas.List.{take_more}
use Rattle.std.proofs.lemmas.Int.Digits.{digits_value_more}
use Rattle.std.proofs.Math.Nat.{mul-le-mul_left}
use Rattle.bpf_asm.specs.Tokens.{all_digits, bounded, numeral}

digit_at : (radix : ℕ) (xs : List ℕ) (i : ℕ) → i < length xs → all_digits radix xs ≡ true → digit_value (get_or xs i 0) < radix
digit_at radix [] i h all = absurd (omega arith)
digit_at radix (c ∷ cs) zero h all = ltb-true _ _ (and_parts (ltb (digit_value c) radix) (all_digits radix cs) all).0
digit_at radix (c ∷ cs) (suc i) h all = digit_at radix cs i (omega arith) (and_parts (ltb (digit_value c) radix) (all_digits radix cs) all).1

no_numeral : (radix : ℕ) (xs : List ℕ) (all : Bool) → all_digits radix xs ≡ all → (all ≡ true → ⊥) → numeral radix xs ≡ None
unfolding numeral
no_numeral radix [] all e fails = refl
no_numeral radix (c ∷ cs) true e fails = absurd (fails refl)
no_numeral radix (c ∷ cs) false e fails = rw e refl

-- a character that is no digit
pub ends_at : (radix : ℕ) (xs : List ℕ) (i : ℕ) → i < length xs → (digit_value (get_or xs i 0) < radix → ⊥) → numeral radix xs ≡ None
ends_at radix xs i h fails = no_numeral radix xs (all_digits radix xs) refl (λ all. fails (digit_at radix xs i h all))

digits_push : (radix : ℕ) (xs : List ℕ) (c : ℕ) → all_digits radix xs ≡ true → digit_value c < radix → all_digits radix (xs ++ (c ∷ [])) ≡ true
digits_push radix [] c all small = and_from _ _ (lt-ltb _ _ small) refl
digits_push radix (x ∷ xs) c all small =
    let parts = and_parts (ltb (digit_value x) radix) (all_digits radix xs) all in
    and_from _ _ parts.0 (digits_push radix xs c parts.1 small)

bounded_step : (small : Bool) (n radix digit : ℕ) → 2 ≤ radix → ltb n (2 ^ 64) ≡ small
    → option_and_then (λ m. bounded (m * radix + digit)) (cond small (Some n) None) ≡ bounded (n * radix + digit)
bounded_step true n radix digit two e = refl
bounded_step false n radix digit two e =
    let high = ltb-false n (2 ^ 64) e in
    let more = mul-le-mul_left n two in
    let past : 2 ^ 64 ≤ n * radix + digit = omega arith in
    rw (le-ltb (n * radix + digit) (2 ^ 64) past) refl

-- one digit more
pub goes_on : (radix : ℕ) (xs : List ℕ) (i digit : ℕ) (old new : Option ℕ) → 2 ≤ radix → i < length xs → digit ≡ digit_value (get_or xs i 0) → digit < radix
    → (all_digits radix (take i xs) ≡ true) × (old ≡ bounded (digits_value radix (take i xs)))
    → new ≡ option_and_then (λ n. bounded (n * radix + digit)) old
    → (all_digits radix (take (i + 1) xs) ≡ true) × (new ≡ bounded (digits_value radix (take (i + 1) xs)))
goes_on radix xs i digit old new two h is small (all, e) made =
    let more = take_more xs i 0 h in
    let value = digits_value_more radix xs i h in
    let v = digits_value radix (take i xs) in (
      rw more (digits_push radix (take i xs) (get_or xs i 0) all (omega arith)),
      made ∙ ap (option_and_then (λ n. bounded (n * radix + digit))) e ∙ bounded_step (ltb v (2 ^ 64)) v radix digit two refl
          ∙ ap (λ (d : ℕ). bounded (v * radix + d)) is ∙ ap bounded (sym value),
    )
