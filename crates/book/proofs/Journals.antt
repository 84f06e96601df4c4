-- How many lines a book has had, holds, and has handed out.
use Rattle.std.proofs.Common.{◌≡◌, ℕ, suc, ◌+◌, ◌-◌, max, min, List, [], ◌∷◌, ◌++◌, length, drop, take, Vec, arith, ap, sym, ◌∙◌, length-append, append_assoc, rules}
use Rattle.std.proofs.lemmas.List.{take_all, drop_min, length-drop}
use Rattle.std.specs.declared.alloc.Global.{Global}
use Rattle.service_profile.specs.Events.{EntryData}
use Rattle.book.specs.Books.{all_lines, lines_handed}

pub all_count : (pieces : List (Vec EntryData Global)) (entries : List EntryData) (rolled : ℕ) → rolled ≡ length (lines_handed pieces) → length (all_lines pieces entries) ≡ rolled + length entries
all_count pieces entries rolled is = omega (arith, is, length-append (lines_handed pieces) entries)

pub held_is : (pieces : List (Vec EntryData Global)) (entries : List EntryData) (rolled : ℕ) → rolled ≡ length (lines_handed pieces) → length (all_lines pieces entries) - rolled ≡ length entries
held_is pieces entries rolled is = omega (arith, all_count pieces entries rolled is)

pub all_with : (pieces : List (Vec EntryData Global)) (entries more : List EntryData) → all_lines pieces (entries ++ more) ≡ all_lines pieces entries ++ more
all_with pieces entries more = sym (append_assoc (lines_handed pieces) entries more)

drop_past : {A : Type 0} (xs ys : List A) (n : ℕ) → drop (length xs + n) (xs ++ ys) ≡ drop n ys
drop_past [] ys n = ap (λ (m : ℕ). drop m ys) (omega arith)
drop_past (x ∷ xs) ys n =
    let more : length (x ∷ xs) + n ≡ suc (length xs + n) = omega arith in
    ap (λ (m : ℕ). drop m (x ∷ (xs ++ ys))) more ∙ drop_past xs ys n

-- what is held of all lines
pub held_of : (pieces : List (Vec EntryData Global)) (entries : List EntryData) (rolled n : ℕ) → rolled ≡ length (lines_handed pieces) → drop (rolled + n) (all_lines pieces entries) ≡ drop n entries
held_of pieces entries rolled n is = ap (λ (m : ℕ). drop (m + n) (all_lines pieces entries)) is ∙ drop_past (lines_handed pieces) entries n

-- the lines from a number on
pub from_held : (pieces : List (Vec EntryData Global)) (entries : List EntryData) (rolled passed first : ℕ) → rolled ≡ length (lines_handed pieces) → first ≡ passed - rolled → drop first entries ≡ drop (max rolled passed) (all_lines pieces entries)
from_held pieces entries rolled passed first is e =
    let same : max rolled passed ≡ rolled + first = omega (arith, e) in
    sym (ap (λ (n : ℕ). drop n (all_lines pieces entries)) same ∙ held_of pieces entries rolled first is)

pub all_held : (pieces : List (Vec EntryData Global)) (entries : List EntryData) (rolled : ℕ) → rolled ≡ length (lines_handed pieces) → entries ≡ drop rolled (all_lines pieces entries)
all_held pieces entries rolled is = sym (ap (λ (n : ℕ). drop n (all_lines pieces entries)) (omega arith) ∙ held_of pieces entries rolled 0 is)

-- what is left from a place on
pub rest_of : (all entries : List EntryData) (first passed count : ℕ) → all ≡ entries → count ≡ length entries → first ≡ min passed count → take (length all - first) (drop first all) ≡ drop passed entries
rest_of all entries first passed count same counted e = search (rules, take_all, length-drop, drop_min)
