-- A text stands for a program exactly where its lines are read one after another without a fault.
use Rattle.std.proofs.Common.{◌≡◌, refl, sym, ap, ◌∙◌, subst, ℕ, ◌+◌, ◌<◌, ◌≤◌, Bool, true, false, cond, ltb, List, [], ◌∷◌, ◌++◌, length, map, Option, Result, Ok, Err, append_assoc, length-append, arith}
use Rattle.std.specs.List.{flat_map}
use Rattle.std.proofs.lemmas.List.{append-nil}
use Rattle.std.proofs.lemmas.Bool.{ltb-false, le-ltb}
use Rattle.refusals.specs.declared.RefusalNumber.{RefusalNumber}
use Rattle.refusals.specs.declared.RefusalNumber.TheVariants.{BadTextLength}
use Rattle.bpf_profile.specs.declared.instruction.Instruction.{Instruction}
use Rattle.bpf_profile.specs.declared.slot.Slot.{Slot}
use Rattle.bpf_asm.specs.declared.error.AsmError.{AsmError}
use Rattle.bpf_asm.specs.Assembly.{Assembles, statement_on, slots_of, with_line, with_lines, within, at_line, then_lines, fault, lines_of, small_letters, assembly_of, not_empty}
use Rattle.bpf_asm.specs.Reading.{◌>>=◌}
use Rattle.bpf_profile.specs.Limits.{most_slots}

-- lines that are read as these slots after others
pub record IsRead (lines : List (List ℕ)) (slots all : List Slot) : Type 0 where
  pub statements : List (Option Instruction)
  pub read : map statement_on lines ≡ map Ok statements
  pub whole : all ≡ slots ++ flat_map slots_of statements
  pub few : length all ≤ most_slots

not_ok : {A E : Type 0} (e : E) (a : A) → ◌≡◌ {A = Result A E} (Err e) (Ok a) → ⊥
not_ok {A} {E} e a h = let g : ◌≡◌ {A = Result A E} (Err e) (Ok a) = h in cc

one_more : (line : List ℕ) (lines : List (List ℕ)) (slots all : List Slot) (s : Option Instruction) → statement_on line ≡ Ok s → IsRead lines (slots ++ slots_of s) all → IsRead (line ∷ lines) slots all
one_more line lines slots all s e rest = record {
  statements = s ∷ rest.statements;
  read = ap (λ (r : Result (Option Instruction) RefusalNumber). r ∷ map statement_on lines) e ∙ ap (λ (rs : List (Result (Option Instruction) RefusalNumber)). Ok s ∷ rs) rest.read;
  whole = rest.whole ∙ append_assoc slots (slots_of s) (flat_map slots_of rest.statements);
  few = rest.few;
}

-- one line, where the lines behind it are known
with_statement : (number : ℕ) (slots all : List Slot) (line : List ℕ) (lines : List (List ℕ)) (r : Result (Option Instruction) RefusalNumber) → statement_on line ≡ r
    → ((longer : List Slot) → length longer ≤ most_slots → with_lines (number + 1) longer lines ≡ Ok all → IsRead lines longer all)
    → then_lines (at_line number (r >>= (λ s. within (slots ++ slots_of s)))) (λ longer. with_lines (number + 1) longer lines) ≡ Ok all → IsRead (line ∷ lines) slots all
with_statement number slots all line lines (Err refusal) is rest e = absurd (not_ok (fault number refusal) all e)
with_statement number slots all line lines (Ok s) is rest e = one_more line lines slots all s is (fitting (ltb most_slots (length (slots ++ slots_of s))) refl e)
  where
    fitting : (long : Bool) → ltb most_slots (length (slots ++ slots_of s)) ≡ long
        → then_lines (at_line number (cond long (Err BadTextLength) (Ok (slots ++ slots_of s)))) (λ longer. with_lines (number + 1) longer lines) ≡ Ok all
        → IsRead lines (slots ++ slots_of s) all
    fitting true is e = absurd (not_ok (fault number BadTextLength) all e)
    fitting false is e = rest (slots ++ slots_of s) (ltb-false _ _ is) e

pub read_lines : (number : ℕ) (slots all : List Slot) (lines : List (List ℕ)) → length slots ≤ most_slots → with_lines number slots lines ≡ Ok all → IsRead lines slots all
unfolding with_lines with_line
read_lines number slots all [] few e =
    let same : slots ≡ all = cc in
    record { statements = []; read = refl; whole = sym same ∙ sym (append-nil slots); few = subst (λ (xs : List Slot). length xs ≤ most_slots) same few }
read_lines number slots all (line ∷ lines) few e =
    with_statement number slots all line lines (statement_on line) refl (λ longer few e. read_lines (number + 1) longer all lines few e) e

-- what can be read is read
grows : (slots more rest : List Slot) → length (slots ++ (more ++ rest)) ≤ most_slots → length (slots ++ more) ≤ most_slots
grows slots more rest h = omega (arith, length-append slots (more ++ rest), length-append more rest, length-append slots more)

pub head_same : {A : Type 0} (a b : A) (xs ys : List A) → a ∷ xs ≡ b ∷ ys → a ≡ b
head_same a b xs ys e = cc

pub tail_same : {A : Type 0} (a b : A) (xs ys : List A) → a ∷ xs ≡ b ∷ ys → xs ≡ ys
tail_same a b xs ys e = cc

pub lines_read : (number : ℕ) (slots : List Slot) (lines : List (List ℕ)) (statements : List (Option Instruction)) → map statement_on lines ≡ map Ok statements
    → length (slots ++ flat_map slots_of statements) ≤ most_slots → length slots ≤ most_slots → with_lines number slots lines ≡ Ok (slots ++ flat_map slots_of statements)
unfolding with_lines with_line
lines_read number slots [] [] e fits few = ap Ok (sym (append-nil slots))
lines_read number slots [] (s ∷ statements) e fits few = absurd cc
lines_read number slots (line ∷ lines) [] e fits few = absurd cc
lines_read number slots (line ∷ lines) (s ∷ statements) e fits few =
    let here = head_same (statement_on line) (Ok s) (map statement_on lines) (map Ok statements) e in
    let there = tail_same (statement_on line) (Ok s) (map statement_on lines) (map Ok statements) e in
    let short = grows slots (slots_of s) (flat_map slots_of statements) fits in
    let again = append_assoc slots (slots_of s) (flat_map slots_of statements) in
    ap (λ (r : Result (Option Instruction) RefusalNumber). then_lines (at_line number (r >>= (λ s. within (slots ++ slots_of s)))) (λ longer. with_lines (number + 1) longer lines)) here
    ∙ ap (λ (long : Bool). then_lines (at_line number (cond long (Err BadTextLength) (Ok (slots ++ slots_of s)))) (λ longer. with_lines (number + 1) longer lines)) (le-ltb most_slots (length (slots ++ slots_of s)) short)
    ∙ lines_read (number + 1) (slots ++ slots_of s) lines statements there (subst (λ (xs : List Slot). length xs ≤ most_slots) (sym again) fits) short
    ∙ ap Ok again

-- ---- whole texts

filled : (slots all : List Slot) → not_empty slots ≡ Ok all → (slots ≡ all) × (0 < length all)
filled [] all e = absurd (not_ok (fault 0 BadTextLength) all e)
filled (slot ∷ slots) all e =
    let same : slot ∷ slots ≡ all = cc in
    (same, subst (λ (xs : List Slot). 0 < length xs) same (omega arith))

is_filled : (slots : List Slot) → 0 < length slots → not_empty slots ≡ Ok slots
is_filled [] h = absurd (omega arith)
is_filled (slot ∷ slots) h = refl

pub read_slots : (text : List ℕ) (slots : List Slot) → with_lines 1 [] (lines_of (small_letters text)) ≡ Ok slots → 0 < length slots → Assembles text slots
read_slots text slots e some =
    let r = read_lines 1 [] slots (lines_of (small_letters text)) (omega arith) e in
    record { statements = r.statements; lines = r.read; whole = r.whole; some = some; few = r.few }

pub slots_read : (text : List ℕ) (slots : List Slot) → Assembles text slots → with_lines 1 [] (lines_of (small_letters text)) ≡ Ok slots
slots_read text slots is =
    lines_read 1 [] (lines_of (small_letters text)) is.statements is.lines (subst (λ (xs : List Slot). length xs ≤ most_slots) is.whole is.few) (omega arith)
    ∙ ap Ok (sym is.whole)

pub one_program : (text : List ℕ) (a b : List Slot) → Assembles text a → Assembles text b → a ≡ b
one_program text a b x y = let e : ◌≡◌ {A = Result (List Slot) AsmError} (Ok a) (Ok b) = sym (slots_read text a x) ∙ slots_read text b y in cc

pub no_program : (text : List ℕ) (e : AsmError) → with_lines 1 [] (lines_of (small_letters text)) ≡ Err e → (slots : List Slot) → Assembles text slots → ⊥
no_program text e h slots is = not_ok e slots (sym h ∙ slots_read text slots is)

empty_is_not_filled : (slots : List Slot) → [] ≡ slots → 0 < length slots → ⊥
empty_is_not_filled [] e h = omega arith
empty_is_not_filled (slot ∷ slots) e h = absurd cc

pub no_slots : (text : List ℕ) → with_lines 1 [] (lines_of (small_letters text)) ≡ Ok [] → (slots : List Slot) → Assembles text slots → ⊥
no_slots text h slots is =
    let e : ◌≡◌ {A = Result (List Slot) AsmError} (Ok []) (Ok slots) = sym h ∙ slots_read text slots is in
    empty_is_not_filled slots (cc) is.some

pub nil_from_none : (slots : List Slot) → length slots ≡ 0 → slots ≡ []
nil_from_none [] e = refl
nil_from_none (slot ∷ slots) e = absurd (omega arith)

-- ---- the first fault and the relation

fault_or_slots : (text : List ℕ) (slots : List Slot) (r : Result (List Slot) AsmError) → with_lines 1 [] (lines_of (small_letters text)) ≡ r → then_lines r not_empty ≡ Ok slots → Assembles text slots
fault_or_slots text slots (Ok read) e h =
    let parts = filled read slots h in
    read_slots text slots (e ∙ ap Ok parts.0) parts.1
fault_or_slots text slots (Err fault) e h = absurd (not_ok fault slots h)

pub faultless_is_assembled : (text : List ℕ) (slots : List Slot) → assembly_of text ≡ Ok slots → Assembles text slots
faultless_is_assembled text slots h = fault_or_slots text slots (with_lines 1 [] (lines_of (small_letters text))) refl h

pub assembled_is_faultless : (text : List ℕ) (slots : List Slot) → Assembles text slots → assembly_of text ≡ Ok slots
assembled_is_faultless text slots is = ap (λ (r : Result (List Slot) AsmError). then_lines r not_empty) (slots_read text slots is) ∙ is_filled slots is.some
