-- Characters of the canonical text: no line feed, no semicolon, no carriage return, no capital.
use Rattle.std.proofs.Common.{◌≡◌, refl, ap, ◌∙◌, ℕ, zero, suc, ◌-◌, ◌≤◌, Bool, true, false, cond, not, eqb, List, [], ◌∷◌, ◌++◌, length, map, drop, Some, None, arith}
use Rattle.std.specs.Prelude.{◌&&◌}
use Rattle.std.specs.Char.{to_ascii_lowercase}
use Rattle.std.specs.List.{slice_split, onto_first, position_or_len}
use Rattle.std.specs.Str.{bytes_eq}
use Rattle.std.specs.Str.Parse.{AllDigits}
use Rattle.std.proofs.lemmas.Bool.{eqb-true, ne_eqb, eq-eqb, le-ltb, and_parts, and_from, and_left}
use Rattle.std.proofs.lemmas.List.Splits.{slice_split-cons_no}
use Rattle.std.proofs.lemmas.Str.Ascii.{lowercase_is}
use Rattle.std.proofs.lemmas.Str.Parse.{digit_from_value}
use Rattle.bpf_asm.specs.Tokens.{without_return, without_comment, content_of, up_to}

abbrev pub is_plain : ℕ → Bool
is_plain c = not (eqb c 10) && (not (eqb c 59) && (not (eqb c 13) && eqb (to_ascii_lowercase c) c))

abbrev pub all_plain : List ℕ → Bool
all_plain [] = true
all_plain (c ∷ cs) = is_plain c && all_plain cs

-- what a plain character is
pub record IsPlain (c : ℕ) : Type 0 where
  pub feed : eqb c 10 ≡ false
  pub comment : eqb c 59 ≡ false
  pub return : eqb c 13 ≡ false
  pub small : to_ascii_lowercase c ≡ c

was_false : (b : Bool) → not b ≡ true → b ≡ false
was_false true e = absurd cc
was_false false e = refl

plain_parts : (c : ℕ) → is_plain c ≡ true → IsPlain c
plain_parts c e =
    let a = and_parts (not (eqb c 10)) _ e in
    let b = and_parts (not (eqb c 59)) _ a.1 in
    let d = and_parts (not (eqb c 13)) _ b.1 in
    record { feed = was_false _ a.0; comment = was_false _ b.0; return = was_false _ d.0; small = eqb-true _ _ d.1 }

head_plain : (c : ℕ) (cs : List ℕ) → all_plain (c ∷ cs) ≡ true → IsPlain c
head_plain c cs e = plain_parts c (and_parts (is_plain c) (all_plain cs) e).0

tail_plain : (c : ℕ) (cs : List ℕ) → all_plain (c ∷ cs) ≡ true → all_plain cs ≡ true
tail_plain c cs e = (and_parts (is_plain c) (all_plain cs) e).1

pub plain_append : (xs ys : List ℕ) → all_plain xs ≡ true → all_plain ys ≡ true → all_plain (xs ++ ys) ≡ true
plain_append [] ys a b = b
plain_append (x ∷ xs) ys a b = and_from _ _ (and_parts (is_plain x) (all_plain xs) a).0 (plain_append xs ys (tail_plain x xs a) b)

not_true : (b : Bool) → b ≡ false → not b ≡ true
not_true true e = cc
not_true false e = refl

digit_plain : (c : ℕ) → 48 ≤ c → c ≤ 57 → is_plain c ≡ true
digit_plain c low high =
    and_from _ _ (not_true _ (ne_eqb c 10 (λ e. omega arith))) (and_from _ _ (not_true _ (ne_eqb c 59 (λ e. omega arith)))
    (and_from _ _ (not_true _ (ne_eqb c 13 (λ e. omega arith))) (eq-eqb _ _ ((lowercase_is c).1 (omega arith)))))

pub digits_plain : (ds : List ℕ) → AllDigits 10 ds → all_plain ds ≡ true
digits_plain [] all = refl
digits_plain (c ∷ cs) all = let r = digit_from_value c all.0 in and_from _ _ (digit_plain c r.0 r.1) (digits_plain cs all.1)

-- ---- plain lines keep their content

drop_plain : (n : ℕ) (xs : List ℕ) → all_plain xs ≡ true → all_plain (drop n xs) ≡ true
drop_plain zero xs e = e
drop_plain (suc n) [] e = refl
drop_plain (suc n) (x ∷ xs) e = drop_plain n xs (tail_plain x xs e)

no_return : (xs : List ℕ) → all_plain xs ≡ true → bytes_eq xs (13 ∷ []) ≡ false
no_return [] e = refl
no_return (c ∷ cs) e = and_left (eqb c 13) _ (head_plain c cs e).return

keeps_end : (xs : List ℕ) → all_plain xs ≡ true → without_return xs ≡ xs
keeps_end xs e = rw (no_return (drop (length xs - 1) xs) (drop_plain (length xs - 1) xs e)) refl

no_comment : (xs : List ℕ) → all_plain xs ≡ true → position_or_len (λ c. eqb c 59) xs ≡ length xs
no_comment [] e = refl
no_comment (c ∷ cs) e =
    let rest = no_comment cs (tail_plain c cs e) in
    rw ((head_plain c cs e).comment) (omega (arith, rest))

keeps_all : (xs : List ℕ) → all_plain xs ≡ true → without_comment xs ≡ xs
keeps_all xs e =
    let past = le-ltb (position_or_len (λ c. eqb c 59) xs) (length xs) (omega (arith, no_comment xs e)) in
    ap (λ (b : Bool). up_to (cond b (Some (position_or_len (λ c. eqb c 59) xs)) None) xs) past

pub keeps_content : (xs : List ℕ) → all_plain xs ≡ true → content_of xs ≡ xs
keeps_content xs e = ap without_comment (keeps_end xs e) ∙ keeps_all xs e

-- ---- and are the lines of their text

pub first_line : (xs ys : List ℕ) → all_plain xs ≡ true → slice_split (λ c. eqb c 10) (xs ++ (10 ∷ ys)) ≡ xs ∷ slice_split (λ c. eqb c 10) ys
first_line [] ys e = refl
first_line (c ∷ cs) ys e =
    slice_split-cons_no (λ c. eqb c 10) c (cs ++ (10 ∷ ys)) (head_plain c cs e).feed ∙ ap (onto_first c) (first_line cs ys (tail_plain c cs e))

pub small_line : (xs ys : List ℕ) → all_plain xs ≡ true → map to_ascii_lowercase (xs ++ (10 ∷ ys)) ≡ xs ++ (10 ∷ map to_ascii_lowercase ys)
small_line [] ys e = refl
small_line (c ∷ cs) ys e =
    ap (λ (d : ℕ). d ∷ map to_ascii_lowercase (cs ++ (10 ∷ ys))) (head_plain c cs e).small ∙ ap (λ (ds : List ℕ). c ∷ ds) (small_line cs ys (tail_plain c cs e))
