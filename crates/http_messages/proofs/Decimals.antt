-- What reading a decimal number gives.
use Rattle.std.proofs.Common.{◌≡◌, ◌≢◌, ℕ, zero, suc, ◌<◌, ◌^◌, Bool, true, false, cond, ◌&&◌, List, [], ◌∷◌, length, get_or, Option, Some, None, Result, refl, arith}
use Rattle.std.specs.Prelude.{nat_lt, IsUtf8}
use Rattle.std.specs.Result.{OkIff}
use Rattle.std.specs.Str.{all_ascii_digits}
use Rattle.std.specs.Str.Parse.{ParsesUnsigned, digits_value}
use Rattle.std.proofs.lemmas.Bool.{ltb-true, lt-ltb}
use Rattle.std.proofs.lemmas.Str.{IsUtf8-from_ascii}
use Rattle.std.proofs.lemmas.Str.Parse.{IsNumeralModel, numerals_by_value, tells_all_ascii_digits, parse_plain}
use Rattle.http_messages.specs.Lengths.{decimal_of}

own : IsNumeralModel (λ ds. all_ascii_digits ds ≡ true) (digits_value 10)
own = numerals_by_value (λ ds. all_ascii_digits ds ≡ true) tells_all_ascii_digits

pub read : {E : Type 0} (text : List ℕ) (r : Result ℕ E) → ParsesUnsigned 64 10 text r → get_or text 0 0 ≢ 43 → OkIff r ((all_ascii_digits text ≡ true) × (0 < length text) × (digits_value 10 text < 2 ^ 64)) (digits_value 10 text)
read text r parsed plain = parse_plain own 64 text r parsed plain

module _ {A : Type 0} (x y : A) where
  both_hold : (a b : Bool) → a ≡ true → b ≡ true → x ≡ cond (a && b) x y
  both_hold a b e f = rw (e, f) refl

  not_both : (a b : Bool) → (a ≡ true → b ≡ true → ⊥) → y ≡ cond (a && b) x y
  not_both true true h = absurd (h refl refl)
  not_both true false h = refl
  not_both false b h = refl

-- digits of a number below the bound
pub is_read : (text : List ℕ) (n : ℕ) → (all_ascii_digits text ≡ true) × (0 < length text) × (digits_value 10 text < 2 ^ 64) → n ≡ digits_value 10 text → Some n ≡ decimal_of text
is_read [] n h e = absurd (omega (arith, h.1))
is_read (c ∷ cs) n h e =
    rw e (both_hold {A = Option ℕ} (Some (digits_value 10 (c ∷ cs))) None (all_ascii_digits (c ∷ cs)) (nat_lt (digits_value 10 (c ∷ cs)) (2 ^ 64)) h.0 (lt-ltb _ _ h.2))

-- anything else
pub is_refused : (text : List ℕ) → ((all_ascii_digits text ≡ true) × (0 < length text) × (digits_value 10 text < 2 ^ 64) → ⊥) → None ≡ decimal_of text
is_refused [] h = refl
is_refused (c ∷ cs) h =
    not_both {A = Option ℕ} (Some (digits_value 10 (c ∷ cs))) None (all_ascii_digits (c ∷ cs)) (nat_lt (digits_value 10 (c ∷ cs)) (2 ^ 64)) (λ digits less. h (digits, omega arith, ltb-true _ _ less))

digit_below : (text : List ℕ) → all_ascii_digits text ≡ true → (i : ℕ) → get_or text i 0 < 128
digit_below [] digits zero = omega arith
digit_below [] digits (suc i) = omega arith
digit_below (c ∷ cs) digits zero = let parts = tells_all_ascii_digits.parts c cs digits in omega (arith, parts.0.0, parts.0.1)
digit_below (c ∷ cs) digits (suc i) = digit_below cs (tells_all_ascii_digits.parts c cs digits).1 i

-- digits are text, so bytes that are none write no number
pub no_text_is_refused : (bytes : List ℕ) → ¬ (IsUtf8 bytes) → None ≡ decimal_of bytes
no_text_is_refused bytes none = is_refused bytes (λ read. none (IsUtf8-from_ascii bytes (digit_below bytes read.0)))
