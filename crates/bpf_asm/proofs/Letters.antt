-- What is read of a text in small letters is read of the text itself: its lines, marks, comments and numbers.
use Rattle.std.proofs.Common.{◌≡◌, refl, sym, ap, ◌∙◌, ℕ, ◌+◌, ◌-◌, ◌<◌, ◌≤◌, Bool, true, false, cond, not, eqb, ltb, List, [], ◌∷◌, length, take, drop, map, Option, Some, None, arith}
use Rattle.std.specs.Prelude.{◌&&◌, ◌||◌, codes}
use Rattle.std.specs.Char.{to_ascii_lowercase, digit_value}
use Rattle.std.specs.List.{onto_first, position, position_or_len}
use Rattle.std.specs.Option.{is_some}
use Rattle.std.specs.Str.{bytes_eq}
use Rattle.std.specs.Str.Parse.{digits_value}
use Rattle.std.proofs.lemmas.Bool.{ltb-true, ltb-false, ne_eqb, eqb-true, eqb-false, eq-eqb}
use Rattle.std.specs.Int.Digits.{number_from_digits}
use Rattle.std.proofs.lemmas.Int.Digits.{digits_value_is}
use Rattle.std.proofs.lemmas.List.{length-map, take-map, drop-map}
use Rattle.std.proofs.lemmas.List.Splits.{slice_split-cons_yes, slice_split-cons_no}
use Rattle.std.proofs.lemmas.Str.Ascii.{lowercase_is}
use Rattle.bpf_profile.specs.declared.instruction.Width.TheVariants as width
use Rattle.bpf_asm.specs.declared.tokens.Token.{Token}
use Rattle.bpf_asm.specs.Names.{is_narrow, stem_of, width_of}
use Rattle.bpf_asm.specs.Tokens.{all_digits, bounded, numeral, number_of, mark_of, ends_run, without_return, up_to, without_comment, content_of}
use Rattle.bpf_asm.specs.Assembly.{lines_of, small_letters}

-- ---- characters

-- a character that is no letter is read where it stands, and nowhere else
stays : (c d : ℕ) → d < 97 → (65 ≤ d → d ≤ 90 → ⊥) → eqb (to_ascii_lowercase c) d ≡ eqb c d
stays c d low none = by (ltb c 65) (ltb c 91) refl refl
  where
    by : (a b : Bool) → ltb c 65 ≡ a → ltb c 91 ≡ b → eqb (to_ascii_lowercase c) d ≡ eqb c d
    by true b e f = let h = ltb-true c 65 e in ap (λ (n : ℕ). eqb n d) ((lowercase_is c).1 h)
    by false false e f = let h = ltb-false c 91 f in ap (λ (n : ℕ). eqb n d) ((lowercase_is c).2 (omega arith))
    by false true e f =
        let h = ltb-false c 65 e in
        let k = ltb-true c 91 f in
        ap (λ (n : ℕ). eqb n d) ((lowercase_is c).0 (omega arith, omega arith)) ∙ ne_eqb (c + 32) d (λ same. omega arith) ∙ sym (ne_eqb c d (λ same. none (omega arith) (omega arith)))

pub mark_small : (c : ℕ) → mark_of (to_ascii_lowercase c) ≡ mark_of c
unfolding mark_of
mark_small c =
    rw (stays c 44 (omega arith) (λ a b. omega arith), stays c 91 (omega arith) (λ a b. omega arith), stays c 93 (omega arith) (λ a b. omega arith), stays c 43 (omega arith) (λ a b. omega arith), stays c 45 (omega arith) (λ a b. omega arith)) refl

pub ends_small : (c : ℕ) → ends_run (to_ascii_lowercase c) ≡ ends_run c
unfolding ends_run
ends_small c =
    ap (λ (b : Bool). b || ((eqb (to_ascii_lowercase c) 9) || is_some (mark_of (to_ascii_lowercase c)))) (stays c 32 (omega arith) (λ a b. omega arith))
    ∙ ap (λ (b : Bool). (eqb c 32) || (b || is_some (mark_of (to_ascii_lowercase c)))) (stays c 9 (omega arith) (λ a b. omega arith))
    ∙ ap (λ (m : Option Token). (eqb c 32) || ((eqb c 9) || is_some m)) (mark_small c)

digit_small : (c : ℕ) → digit_value (to_ascii_lowercase c) ≡ digit_value c
digit_small c = by (ltb c 65) (ltb c 91) refl refl
  where
    by : (a b : Bool) → ltb c 65 ≡ a → ltb c 91 ≡ b → digit_value (to_ascii_lowercase c) ≡ digit_value c
    by true b e f = let h = ltb-true c 65 e in ap digit_value ((lowercase_is c).1 h)
    by false false e f = let h = ltb-false c 91 f in ap digit_value ((lowercase_is c).2 (omega arith))
    by false true e f =
        let h = ltb-false c 65 e in
        let k = ltb-true c 91 f in
        ap digit_value ((lowercase_is c).0 (omega arith, omega arith)) ∙ grind arith

-- ---- lines

onto_small : (c : ℕ) (parts : List (List ℕ)) → onto_first (to_ascii_lowercase c) (map small_letters parts) ≡ map small_letters (onto_first c parts)
onto_small c [] = refl
onto_small c (part ∷ parts) = refl

pub lines_small : (text : List ℕ) → lines_of (small_letters text) ≡ map small_letters (lines_of text)
lines_small [] = refl
lines_small (c ∷ cs) = by (eqb c 10) refl (lines_small cs)
  where
    by : (b : Bool) → eqb c 10 ≡ b → lines_of (small_letters cs) ≡ map small_letters (lines_of cs) → lines_of (small_letters (c ∷ cs)) ≡ map small_letters (lines_of (c ∷ cs))
    by true e rest =
        slice_split-cons_yes (λ x. eqb x 10) (to_ascii_lowercase c) (small_letters cs) (stays c 10 (omega arith) (λ a b. omega arith) ∙ e)
        ∙ ap (λ (ls : List (List ℕ)). [] ∷ ls) rest ∙ ap (map small_letters) (sym (slice_split-cons_yes (λ x. eqb x 10) c cs e))
    by false e rest =
        slice_split-cons_no (λ x. eqb x 10) (to_ascii_lowercase c) (small_letters cs) (stays c 10 (omega arith) (λ a b. omega arith) ∙ e)
        ∙ ap (onto_first (to_ascii_lowercase c)) rest ∙ onto_small c (lines_of cs) ∙ ap (map small_letters) (sym (slice_split-cons_no (λ x. eqb x 10) c cs e))

-- the first line and the others
pub first_small : (text line : List ℕ) (lines : List (List ℕ)) → lines_of text ≡ line ∷ lines → lines_of (small_letters text) ≡ small_letters line ∷ map small_letters lines
first_small text line lines e = lines_small text ∙ ap (map small_letters) e

-- ---- what is read of a line

ends_stay : (s : List ℕ) → bytes_eq (small_letters s) (13 ∷ []) ≡ bytes_eq s (13 ∷ [])
ends_stay [] = refl
ends_stay (c ∷ []) = ap (λ (b : Bool). b && true) (stays c 13 (omega arith) (λ a b. omega arith))
ends_stay (c ∷ (d ∷ ds)) = ap (λ (b : Bool). b && false) (stays c 13 (omega arith) (λ a b. omega arith))

cut_small : (s : List ℕ) (n : ℕ) (b : Bool) → cond b (take n (small_letters s)) (small_letters s) ≡ small_letters (cond b (take n s) s)
cut_small s n true = take-map to_ascii_lowercase n s
cut_small s n false = refl

return_small : (line : List ℕ) → without_return (small_letters line) ≡ small_letters (without_return line)
return_small line =
    ap (λ (n : ℕ). cond (bytes_eq (drop (n - 1) (small_letters line)) (13 ∷ [])) (take (n - 1) (small_letters line)) (small_letters line)) (length-map line to_ascii_lowercase)
    ∙ ap (λ (s : List ℕ). cond (bytes_eq s (13 ∷ [])) (take (length line - 1) (small_letters line)) (small_letters line)) (drop-map to_ascii_lowercase (length line - 1) line)
    ∙ ap (λ (b : Bool). cond b (take (length line - 1) (small_letters line)) (small_letters line)) (ends_stay (drop (length line - 1) line))
    ∙ cut_small line (length line - 1) (bytes_eq (drop (length line - 1) line) (13 ∷ []))

first_semicolon : (line : List ℕ) → position_or_len (λ c. eqb c 59) (small_letters line) ≡ position_or_len (λ c. eqb c 59) line
first_semicolon [] = refl
first_semicolon (c ∷ cs) =
    ap (λ (b : Bool). cond (not b) (1 + position_or_len (λ c. eqb c 59) (small_letters cs)) 0) (stays c 59 (omega arith) (λ a b. omega arith))
    ∙ ap (λ (n : ℕ). cond (not (eqb c 59)) (1 + n) 0) (first_semicolon cs)

comment_at : (line : List ℕ) → position (λ c. eqb c 59) (small_letters line) ≡ position (λ c. eqb c 59) line
comment_at line =
    ap (λ (n : ℕ). cond (ltb n (length (small_letters line))) (Some n) None) (first_semicolon line)
    ∙ ap (λ (n : ℕ). cond (ltb (position_or_len (λ c. eqb c 59) line) n) (Some (position_or_len (λ c. eqb c 59) line)) None) (length-map line to_ascii_lowercase)

up_to_small : (at : Option ℕ) (line : List ℕ) → up_to at (small_letters line) ≡ small_letters (up_to at line)
up_to_small None line = refl
up_to_small (Some end) line = take-map to_ascii_lowercase end line

pub content_small : (line : List ℕ) → content_of (small_letters line) ≡ small_letters (content_of line)
content_small line =
    ap without_comment (return_small line)
    ∙ ap (λ (at : Option ℕ). up_to at (small_letters (without_return line))) (comment_at (without_return line))
    ∙ up_to_small (position (λ c. eqb c 59) (without_return line)) (without_return line)

-- ---- numbers

all_small : (radix : ℕ) (s : List ℕ) → all_digits radix (small_letters s) ≡ all_digits radix s
all_small radix [] = refl
all_small radix (c ∷ cs) =
    ap (λ (n : ℕ). ltb n radix && all_digits radix (small_letters cs)) (digit_small c) ∙ ap (λ (b : Bool). ltb (digit_value c) radix && b) (all_small radix cs)

digits_small : (s : List ℕ) → map digit_value (small_letters s) ≡ map digit_value s
digits_small [] = refl
digits_small (c ∷ cs) = ap (λ (n : ℕ). n ∷ map digit_value (small_letters cs)) (digit_small c) ∙ ap (λ (ns : List ℕ). digit_value c ∷ ns) (digits_small cs)

value_small : (radix : ℕ) (s : List ℕ) → digits_value radix (small_letters s) ≡ digits_value radix s
value_small radix s = digits_value_is radix (small_letters s) ∙ ap (number_from_digits radix) (digits_small s) ∙ sym (digits_value_is radix s)

pub numeral_small : (radix : ℕ) (s : List ℕ) → numeral radix (small_letters s) ≡ numeral radix s
unfolding numeral
numeral_small radix [] = refl
numeral_small radix (c ∷ cs) =
    ap (λ (b : Bool). cond b (Some (bounded (digits_value radix (small_letters (c ∷ cs))))) None) (all_small radix (c ∷ cs))
    ∙ ap (λ (n : ℕ). cond (all_digits radix (c ∷ cs)) (Some (bounded n)) None) (value_small radix (c ∷ cs))

-- an x in either case
or_false : (b : Bool) → b ≡ (b || false)
or_false true = refl
or_false false = refl

capital_x : (c : ℕ) (b : Bool) → eqb c 88 ≡ b → 65 ≤ c → eqb (c + 32) 120 ≡ b
capital_x c true e low = let same : c ≡ 88 = eqb-true c 88 e in eq-eqb (c + 32) 120 (omega arith)
capital_x c false e low = ne_eqb (c + 32) 120 (λ same. eqb-false c 88 e (omega arith))

x_small : (c : ℕ) → eqb (to_ascii_lowercase c) 120 ≡ (eqb c 120 || eqb c 88)
x_small c = by (ltb c 65) (ltb c 91) refl refl
  where
    by : (a b : Bool) → ltb c 65 ≡ a → ltb c 91 ≡ b → eqb (to_ascii_lowercase c) 120 ≡ (eqb c 120 || eqb c 88)
    by true b e f =
        let h = ltb-true c 65 e in
        ap (λ (n : ℕ). eqb n 120) ((lowercase_is c).1 h) ∙ or_false (eqb c 120) ∙ ap (λ (b : Bool). eqb c 120 || b) (sym (ne_eqb c 88 (λ same. omega arith)))
    by false false e f =
        let h = ltb-false c 91 f in
        ap (λ (n : ℕ). eqb n 120) ((lowercase_is c).2 (omega arith)) ∙ or_false (eqb c 120) ∙ ap (λ (b : Bool). eqb c 120 || b) (sym (ne_eqb c 88 (λ same. omega arith)))
    by false true e f =
        let h = ltb-false c 65 e in
        let k = ltb-true c 91 f in
        ap (λ (n : ℕ). eqb n 120) ((lowercase_is c).0 (omega arith, omega arith)) ∙ capital_x c (eqb c 88) refl h
        ∙ ap (λ (b : Bool). b || eqb c 88) (sym (ne_eqb c 120 (λ same. omega arith)))

either_x : (a b c : Bool) → (a && ((b || c) && true)) ≡ ((a && (b && true)) || (a && (c && true)))
either_x false b c = refl
either_x true true c = refl
either_x true false true = refl
either_x true false false = refl

prefix_small : (s : List ℕ) → bytes_eq (take 2 (small_letters s)) (codes "0x") ≡ (bytes_eq (take 2 s) (codes "0x") || bytes_eq (take 2 s) (codes "0X"))
prefix_small [] = refl
prefix_small (c ∷ []) = ap (λ (b : Bool). b && false) (stays c 48 (omega arith) (λ a b. omega arith)) ∙ no_end (eqb c 48)
  where
    no_end : (b : Bool) → (b && false) ≡ ((b && false) || (b && false))
    no_end true = refl
    no_end false = refl
prefix_small (c ∷ (d ∷ ds)) =
    ap (λ (b : Bool). b && (eqb (to_ascii_lowercase d) 120 && true)) (stays c 48 (omega arith) (λ a b. omega arith))
    ∙ ap (λ (b : Bool). eqb c 48 && (b && true)) (x_small d) ∙ either_x (eqb c 48) (eqb d 120) (eqb d 88)

behind_small : (radix : ℕ) (s : List ℕ) → numeral radix (drop 2 (small_letters s)) ≡ numeral radix (drop 2 s)
behind_small radix s = ap (numeral radix) (drop-map to_ascii_lowercase 2 s) ∙ numeral_small radix (drop 2 s)

number_by : (s : List ℕ) (b : Bool) → bytes_eq (take 2 s) (codes "0x") || bytes_eq (take 2 s) (codes "0X") ≡ b → number_of (small_letters s) ≡ cond b (numeral 16 (drop 2 s)) (numeral 10 s)
unfolding number_of
number_by s true e = ap (λ (b : Bool). cond b (numeral 16 (drop 2 (small_letters s))) (numeral 10 (small_letters s))) (prefix_small s ∙ e) ∙ behind_small 16 s
number_by s false e = ap (λ (b : Bool). cond b (numeral 16 (drop 2 (small_letters s))) (numeral 10 (small_letters s))) (prefix_small s ∙ e) ∙ numeral_small 10 s

pub small_x : (s : List ℕ) → bytes_eq (take 2 s) (codes "0x") ≡ true → number_of (small_letters s) ≡ numeral 16 (drop 2 s)
small_x s e = number_by s true (ap (λ (b : Bool). b || bytes_eq (take 2 s) (codes "0X")) e)

pub large_x : (s : List ℕ) → bytes_eq (take 2 s) (codes "0x") ≡ false → bytes_eq (take 2 s) (codes "0X") ≡ true → number_of (small_letters s) ≡ numeral 16 (drop 2 s)
large_x s e f = number_by s true (ap (λ (b : Bool). b || bytes_eq (take 2 s) (codes "0X")) e ∙ f)

pub no_x : (s : List ℕ) → bytes_eq (take 2 s) (codes "0x") ≡ false → bytes_eq (take 2 s) (codes "0X") ≡ false → number_of (small_letters s) ≡ numeral 10 s
no_x s e f = number_by s false (ap (λ (b : Bool). b || bytes_eq (take 2 s) (codes "0X")) e ∙ f)

-- ---- the 32 at a word's end

ends_narrow : (s : List ℕ) → bytes_eq (small_letters s) (codes "32") ≡ bytes_eq s (codes "32")
ends_narrow [] = refl
ends_narrow (c ∷ []) = ap (λ (b : Bool). b && false) (stays c 51 (omega arith) (λ a b. omega arith))
ends_narrow (c ∷ (d ∷ [])) =
    ap (λ (b : Bool). b && (eqb (to_ascii_lowercase d) 50 && true)) (stays c 51 (omega arith) (λ a b. omega arith))
    ∙ ap (λ (b : Bool). eqb c 51 && (b && true)) (stays d 50 (omega arith) (λ a b. omega arith))
ends_narrow (c ∷ (d ∷ (e ∷ es))) =
    ap (λ (b : Bool). b && (eqb (to_ascii_lowercase d) 50 && false)) (stays c 51 (omega arith) (λ a b. omega arith))
    ∙ ap (λ (b : Bool). eqb c 51 && (b && false)) (stays d 50 (omega arith) (λ a b. omega arith))

narrow_small : (s : List ℕ) → is_narrow (small_letters s) ≡ is_narrow s
narrow_small s =
    ap (λ (n : ℕ). bytes_eq (drop (n - 2) (small_letters s)) (codes "32")) (length-map s to_ascii_lowercase)
    ∙ ap (λ (t : List ℕ). bytes_eq t (codes "32")) (drop-map to_ascii_lowercase (length s - 2) s) ∙ ends_narrow (drop (length s - 2) s)

stem_by : (s : List ℕ) (b : Bool) → is_narrow s ≡ b → stem_of (small_letters s) ≡ small_letters (cond b (take (length s - 2) s) s)
stem_by s b e =
    ap (λ (b : Bool). cond b (take (length (small_letters s) - 2) (small_letters s)) (small_letters s)) (narrow_small s ∙ e)
    ∙ ap (λ (n : ℕ). cond b (take (n - 2) (small_letters s)) (small_letters s)) (length-map s to_ascii_lowercase) ∙ cut_small s (length s - 2) b

pub stem_cut : (s stem : List ℕ) → is_narrow s ≡ true → stem ≡ take (length s - 2) s → small_letters stem ≡ stem_of (small_letters s)
stem_cut s stem e is = ap small_letters is ∙ sym (stem_by s true e)

pub stem_whole : (s : List ℕ) → is_narrow s ≡ false → small_letters s ≡ stem_of (small_letters s)
stem_whole s e = sym (stem_by s false e)

pub width_by : (s : List ℕ) (b : Bool) → is_narrow s ≡ b → cond b width.Bits32 width.Bits64 ≡ width_of (small_letters s)
width_by s b e = sym (ap (λ (b : Bool). cond b width.Bits32 width.Bits64) (narrow_small s ∙ e))
