-- The operands of the canonical text: their tokens, and that they are read as they were written.
use Rattle.std.proofs.Common.{◌≡◌, refl, sym, ap, ◌∙◌, ℕ, suc, ◌-◌, ◌%◌, ◌^◌, ◌<◌, ◌≤◌, Bool, true, false, cond, ltb, List, [], ◌∷◌, ◌++◌, Some, Result, Ok, pos, negsuc, ℤ, append_assoc, arith}
use Rattle.std.specs.Prelude.{codes, decimal}
use Rattle.std.specs.Fmt.{signed_decimal}
use Rattle.std.proofs.lemmas.Bool.{ltb-true, ltb-false, lt-ltb, le-ltb, le-leb, and_from}
use Rattle.refusals.specs.declared.RefusalNumber.{RefusalNumber}
use Rattle.bpf_profile.specs.declared.instruction.Operand.{Operand}
use Rattle.bpf_profile.specs.declared.instruction.Operand.TheVariants as operand
use Rattle.bpf_profile.specs.declared.instruction.Width.{Width}
use Rattle.bpf_profile.specs.declared.instruction.Width.TheVariants as width
use Rattle.bpf_profile.specs.Words.{low, signed, word_of, sign_extended}
use Rattle.bpf_decode.specs.Encoding.{IsImmediate, IsOffset, IsOperand, IsJump}
use Rattle.bpf_asm.specs.declared.arguments.Argument.{Argument}
use Rattle.bpf_asm.specs.declared.arguments.Argument.TheVariants as argument
use Rattle.bpf_asm.specs.declared.arguments.Numeral.{Numeral}
use Rattle.bpf_asm.specs.declared.arguments.Sign.TheVariants as sign
use Rattle.bpf_asm.specs.declared.tokens.Token.{Token}
use Rattle.bpf_asm.specs.declared.tokens.Token.TheVariants as token
use Rattle.bpf_asm.specs.Arguments.{signed_by}
use Rattle.bpf_asm.specs.Canonical.{with_sign, offset_text, operand_text, place_text, register_text}
use Rattle.bpf_asm.specs.Reading.{◌>>=◌, immediate_of, wide_of, helper_of, offset_of, distance_of, written, operand_of}
use Rattle.bpf_asm.proofs.Plain.{all_plain, plain_append}
use Rattle.bpf_asm.proofs.Lexing.{Lexes, joined, opened, close, plus, minus, close_closes, plus_closes, minus_closes}
use Rattle.bpf_asm.specs.Writing.{closes}
use Rattle.bpf_asm.proofs.Pieces.{register_lexes, register_plain, decimal_lexes, decimal_plain}

-- ---- the signed reading of a word of few bits

-- the word of a number from -least to most
abbrev pub Fits : ℕ → ℕ → ℕ → ℤ → Type 0
Fits least most word (pos n) = (word ≡ n) × (n ≤ most)
Fits least most word (negsuc n) = (word ≡ 2 ^ 64 - suc n) × (suc n ≤ least)

-- a word of few bits is near 0 or near 2 ^ 64
immediate_near : (is_low : Bool) (word : ℕ) → ltb (low 32 (low 32 word)) (2 ^ 31) ≡ is_low → word_of (cond is_low (pos (low 32 (low 32 word))) (negsuc (2 ^ 32 - suc (low 32 (low 32 word))))) ≡ word
    → (is_low ≡ true → word ≤ 2 ^ 31 - 1) × (is_low ≡ false → (2 ^ 64 - 2 ^ 31 ≤ word) × (word < 2 ^ 64))
immediate_near true word e h = let small = ltb-true (low 32 (low 32 word)) (2 ^ 31) e in (λ t. omega arith, λ t. absurd cc)
immediate_near false word e h = let high = ltb-false (low 32 (low 32 word)) (2 ^ 31) e in (λ t. absurd cc, λ t. (omega arith, omega arith))

offset_near : (is_low : Bool) (word : ℕ) → ltb (low 16 (low 16 word)) (2 ^ 15) ≡ is_low → word_of (cond is_low (pos (low 16 (low 16 word))) (negsuc (2 ^ 16 - suc (low 16 (low 16 word))))) ≡ word
    → (is_low ≡ true → word ≤ 2 ^ 15 - 1) × (is_low ≡ false → (2 ^ 64 - 2 ^ 15 ≤ word) × (word < 2 ^ 64))
offset_near true word e h = let small = ltb-true (low 16 (low 16 word)) (2 ^ 15) e in (λ t. omega arith, λ t. absurd cc)
offset_near false word e h = let high = ltb-false (low 16 (low 16 word)) (2 ^ 15) e in (λ t. absurd cc, λ t. (omega arith, omega arith))

fits_from : (least most word : ℕ) (is_low : Bool) → (is_low ≡ true → word ≤ most) × (is_low ≡ false → (2 ^ 64 - least ≤ word) × (word < 2 ^ 64)) → most < 2 ^ 63 → least ≤ 2 ^ 63
    → Fits least most word (signed 64 word)
fits_from least most word true near top bottom =
    let small = near.0 refl in
    rw (lt-ltb (low 64 word) (2 ^ 63) (omega arith)) (omega arith, omega arith)
fits_from least most word false near top bottom =
    let high = near.1 refl in
    rw (le-ltb (low 64 word) (2 ^ 63) (omega arith)) (omega arith, omega arith)

pub immediate_fits : (word : ℕ) → IsImmediate word → Fits (2 ^ 31) (2 ^ 31 - 1) word (signed 64 word)
immediate_fits word h = fits_from (2 ^ 31) (2 ^ 31 - 1) word _ (immediate_near (ltb (low 32 (low 32 word)) (2 ^ 31)) word refl h) (omega arith) (omega arith)

pub offset_fits : (word : ℕ) → IsOffset word → Fits (2 ^ 15) (2 ^ 15 - 1) word (signed 64 word)
offset_fits word h = fits_from (2 ^ 15) (2 ^ 15 - 1) word _ (offset_near (ltb (low 16 (low 16 word)) (2 ^ 15)) word refl h) (omega arith) (omega arith)

-- ---- tokens

abbrev pub number_tokens : ℤ → List Token
number_tokens (pos n) = token.Number (Some n) ∷ []
number_tokens (negsuc n) = token.Minus ∷ token.Number (Some (suc n)) ∷ []

abbrev pub offset_tokens : ℤ → List Token
offset_tokens (pos n) = token.Plus ∷ token.Number (Some n) ∷ []
offset_tokens (negsuc n) = token.Minus ∷ token.Number (Some (suc n)) ∷ []

abbrev pub operand_tokens : Operand → List Token
operand_tokens (operand.Register r) = token.Register r ∷ []
operand_tokens (operand.Immediate word) = number_tokens (signed 64 word)

abbrev pub place_tokens : ℕ → ℕ → List Token
place_tokens base offset = token.Open ∷ token.Register base ∷ (offset_tokens (signed 64 offset) ++ (token.Close ∷ []))

number_lexes : (least most word : ℕ) (z : ℤ) → Fits least most word z → least ≤ 2 ^ 63 → most < 2 ^ 63 → Lexes (signed_decimal z) (number_tokens z)
number_lexes least most word (pos n) fits bottom top = decimal_lexes n (omega (arith, fits.1))
number_lexes least most word (negsuc n) fits bottom top = minus (decimal (suc n)) (token.Number (Some (suc n)) ∷ []) (decimal_lexes (suc n) (omega (arith, fits.1)))

sign_lexes : (least most word : ℕ) (z : ℤ) → Fits least most word z → least ≤ 2 ^ 63 → most < 2 ^ 63 → Lexes (with_sign z) (offset_tokens z)
sign_lexes least most word (pos n) fits bottom top = plus (decimal n) (token.Number (Some n) ∷ []) (decimal_lexes n (omega (arith, fits.1)))
sign_lexes least most word (negsuc n) fits bottom top = minus (decimal (suc n)) (token.Number (Some (suc n)) ∷ []) (decimal_lexes (suc n) (omega (arith, fits.1)))

sign_closes : (z : ℤ) (rest : List ℕ) → closes (with_sign z ++ rest) ≡ true
sign_closes (pos n) rest = plus_closes (decimal n ++ rest)
sign_closes (negsuc n) rest = minus_closes (decimal (suc n) ++ rest)

pub operand_lexes : (o : Operand) → IsOperand o → Lexes (operand_text o) (operand_tokens o)
operand_lexes (operand.Register r) h = register_lexes r h
operand_lexes (operand.Immediate word) h = number_lexes (2 ^ 31) (2 ^ 31 - 1) word (signed 64 word) (immediate_fits word h) (omega arith) (omega arith)

pub offset_lexes : (word : ℕ) → IsOffset word → Lexes (offset_text word) (offset_tokens (signed 64 word))
offset_lexes word h = sign_lexes (2 ^ 15) (2 ^ 15 - 1) word (signed 64 word) (offset_fits word h) (omega arith) (omega arith)

pub distance_lexes : (w : Width) (word : ℕ) → IsJump w word → Lexes (offset_text word) (offset_tokens (signed 64 word))
distance_lexes width.Bits64 word h = offset_lexes word h
distance_lexes width.Bits32 word h = sign_lexes (2 ^ 31) (2 ^ 31 - 1) word (signed 64 word) (immediate_fits word h) (omega arith) (omega arith)

pub place_lexes : (base offset : ℕ) → base < 11 → IsOffset offset → Lexes (place_text base offset) (place_tokens base offset)
place_lexes base offset b h =
    opened _ _ (joined (register_text base) (offset_text offset ++ (93 ∷ [])) (token.Register base ∷ []) (offset_tokens (signed 64 offset) ++ (token.Close ∷ [])) (register_lexes base b)
    (joined (offset_text offset) (93 ∷ []) (offset_tokens (signed 64 offset)) (token.Close ∷ []) (offset_lexes offset h) close (λ rest e. close_closes rest))
    (λ rest e. ap closes (append_assoc (offset_text offset) (93 ∷ []) rest) ∙ sign_closes (signed 64 offset) (93 ∷ rest)))

-- ---- plain texts

number_plain : (least most word : ℕ) (z : ℤ) → Fits least most word z → least ≤ 2 ^ 63 → most < 2 ^ 63 → all_plain (signed_decimal z) ≡ true
number_plain least most word (pos n) fits bottom top = decimal_plain n (omega (arith, fits.1))
number_plain least most word (negsuc n) fits bottom top = and_from _ _ refl (decimal_plain (suc n) (omega (arith, fits.1)))

sign_plain : (least most word : ℕ) (z : ℤ) → Fits least most word z → least ≤ 2 ^ 63 → most < 2 ^ 63 → all_plain (with_sign z) ≡ true
sign_plain least most word (pos n) fits bottom top = and_from _ _ refl (decimal_plain n (omega (arith, fits.1)))
sign_plain least most word (negsuc n) fits bottom top = and_from _ _ refl (decimal_plain (suc n) (omega (arith, fits.1)))

pub operand_plain : (o : Operand) → IsOperand o → all_plain (operand_text o) ≡ true
operand_plain (operand.Register r) h = register_plain r h
operand_plain (operand.Immediate word) h = number_plain (2 ^ 31) (2 ^ 31 - 1) word (signed 64 word) (immediate_fits word h) (omega arith) (omega arith)

pub offset_plain : (word : ℕ) → IsOffset word → all_plain (offset_text word) ≡ true
offset_plain word h = sign_plain (2 ^ 15) (2 ^ 15 - 1) word (signed 64 word) (offset_fits word h) (omega arith) (omega arith)

pub distance_plain : (w : Width) (word : ℕ) → IsJump w word → all_plain (offset_text word) ≡ true
distance_plain width.Bits64 word h = offset_plain word h
distance_plain width.Bits32 word h = sign_plain (2 ^ 31) (2 ^ 31 - 1) word (signed 64 word) (immediate_fits word h) (omega arith) (omega arith)

pub place_plain : (base offset : ℕ) → base < 11 → IsOffset offset → all_plain (place_text base offset) ≡ true
place_plain base offset b h = plain_append (codes "[") (register_text base ++ (offset_text offset ++ codes "]")) refl (plain_append (register_text base) (offset_text offset ++ codes "]") (register_plain base b) (plain_append (offset_text offset) (codes "]") (offset_plain offset h) refl))

-- ---- what is read of them

abbrev pub numeral_of : ℤ → Numeral
numeral_of (pos n) = signed_by sign.Absent (Some n)
numeral_of (negsuc n) = signed_by sign.Minus (Some (suc n))

abbrev pub offset_numeral : ℤ → Numeral
offset_numeral (pos n) = signed_by sign.Plus (Some n)
offset_numeral (negsuc n) = signed_by sign.Minus (Some (suc n))

wraps : (n : ℕ) → suc n ≤ 2 ^ 63 → (2 ^ 64 - suc n) % 2 ^ 64 ≡ 2 ^ 64 - suc n
wraps n h = omega arith

immediate_of_sign : (word : ℕ) (z : ℤ) → IsImmediate word → Fits (2 ^ 31) (2 ^ 31 - 1) word z → immediate_of (numeral_of z) ≡ Ok word
immediate_of_sign word (pos n) h fits =
    rw (le-leb n (2 ^ 32 - 1) (omega (arith, fits.1))) (ap (λ (m : ℕ). Ok (sign_extended 32 (low 32 m))) (sym fits.0) ∙ ap Ok h)
immediate_of_sign word (negsuc n) h fits =
    rw (le-leb (suc n) (2 ^ 31) fits.1) (ap (λ (m : ℕ). Ok (sign_extended 32 (low 32 m))) (wraps n (omega (arith, fits.1)) ∙ sym fits.0) ∙ ap Ok h)

pub immediate_read : (word : ℕ) → IsImmediate word → immediate_of (numeral_of (signed 64 word)) ≡ Ok word
immediate_read word h = immediate_of_sign word (signed 64 word) h (immediate_fits word h)

offset_of_sign : (word : ℕ) (z : ℤ) → Fits (2 ^ 15) (2 ^ 15 - 1) word z → offset_of (offset_numeral z) ≡ Ok word
offset_of_sign word (pos n) fits = rw (le-leb n (2 ^ 15 - 1) fits.1) (ap Ok (sym fits.0))
offset_of_sign word (negsuc n) fits = rw (le-leb (suc n) (2 ^ 15) fits.1) (ap Ok (wraps n (omega (arith, fits.1)) ∙ sym fits.0))

pub offset_read : (word : ℕ) → IsOffset word → offset_of (offset_numeral (signed 64 word)) ≡ Ok word
offset_read word h = offset_of_sign word (signed 64 word) (offset_fits word h)

distance_of_sign : (word : ℕ) (z : ℤ) → Fits (2 ^ 31) (2 ^ 31 - 1) word z → distance_of width.Bits32 (offset_numeral z) ≡ Ok word
distance_of_sign word (pos n) fits = rw (le-leb n (2 ^ 31 - 1) fits.1) (ap Ok (sym fits.0))
distance_of_sign word (negsuc n) fits = rw (le-leb (suc n) (2 ^ 31) fits.1) (ap Ok (wraps n (omega (arith, fits.1)) ∙ sym fits.0))

pub distance_read : (w : Width) (word : ℕ) → IsJump w word → distance_of w (offset_numeral (signed 64 word)) ≡ Ok word
distance_read width.Bits64 word h = offset_read word h
distance_read width.Bits32 word h = distance_of_sign word (signed 64 word) (immediate_fits word h)

pub wide_read : (value : ℕ) → value < 2 ^ 64 → wide_of (signed_by sign.Absent (Some value)) ≡ Ok value
wide_read value h = rw (le-leb value (2 ^ 64 - 1) (omega arith)) refl

pub helper_read : (helper : ℕ) → helper < 2 ^ 32 → helper_of (signed_by sign.Absent (Some helper)) ≡ Ok helper
helper_read helper h = rw (le-leb helper (2 ^ 32 - 1) (omega arith)) refl

pub written_read : (r : ℕ) → r < 10 → written r ≡ Ok r
written_read r h = rw (lt-ltb r 10 h) refl

abbrev pub operand_argument : Operand → Argument
operand_argument (operand.Register r) = argument.Register r
operand_argument (operand.Immediate word) = argument.Number (numeral_of (signed 64 word))

pub operand_read : (o : Operand) → IsOperand o → operand_of (operand_argument o) ≡ Ok o
operand_read (operand.Register r) h = refl
operand_read (operand.Immediate word) h = ap (λ (r : Result ℕ RefusalNumber). r >>= (λ word. Ok (operand.Immediate word))) (immediate_read word h)
