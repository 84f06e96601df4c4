-- A text line by line.
use Rattle.std.proofs.Common.{◌≡◌, refl, sym, ap, ◌∙◌, subst, ℕ, ◌+◌, ◌-◌, ◌<◌, ◌≤◌, Bool, true, false, cond, ltb, List, [], ◌∷◌, length, take, drop, Option, Some, None, Result, Ok, Err, length-drop, arith}
use Rattle.std.specs.Prelude.{MatchOption}
use Rattle.std.specs.List.{slice_split, position, position_or_len}
use Rattle.std.proofs.lemmas.Bool.{ltb-true, ltb-false}
use Rattle.std.proofs.lemmas.List.{take_all}
use Rattle.std.proofs.lemmas.List.Splits.{slice_split_first, slice_split_none}
use Rattle.std.proofs.lemmas.List.Sums.{fails_before_first}
use Rattle.refusals.specs.declared.RefusalNumber.{RefusalNumber}
use Rattle.bpf_profile.specs.declared.slot.Slot.{Slot}
use Rattle.bpf_asm.specs.declared.error.AsmError.{AsmError}
use Rattle.bpf_asm.specs.Assembly.{with_line, with_lines, at_line, then_lines}

first_of : (p : ℕ → Bool) (text : List ℕ) (end : ℕ) (within : Bool) → ltb (position_or_len p text) (length text) ≡ within → Some end ≡ cond within (Some (position_or_len p text)) None
    → (end ≡ position_or_len p text) × (position_or_len p text < length text)
first_of p text end true w e = (cc, ltb-true _ _ w)
first_of p text end false w e = absurd (let g : ◌≡◌ {A = Option ℕ} (Some end) None = e in cc)

none_of : (p : ℕ → Bool) (text : List ℕ) (within : Bool) → ltb (position_or_len p text) (length text) ≡ within → None ≡ cond within (Some (position_or_len p text)) None
    → length text ≤ position_or_len p text
none_of p text true w e = absurd (let g : ◌≡◌ {A = Option ℕ} None (Some (position_or_len p text)) = e in cc)
none_of p text false w e = ltb-false _ _ w

-- the first line and what follows it
pub cut_some : (p : ℕ → Bool) (text : List ℕ) (end : ℕ) → Some end ≡ position p text
    → (slice_split p text ≡ take end text ∷ slice_split p (take (length text - (end + 1)) (drop (end + 1) text)))
    × (length (take (length text - (end + 1)) (drop (end + 1) text)) < length text)
cut_some p text end e =
    let at = first_of p text end (ltb (position_or_len p text) (length text)) refl e in
    let whole : take (length text - (end + 1)) (drop (end + 1) text) ≡ drop (end + 1) text = take_all (length text - (end + 1)) (drop (end + 1) text) (omega (arith, length-drop (end + 1) text)) in
    let split : slice_split p text ≡ take end text ∷ slice_split p (drop (end + 1) text) =
    slice_split_first p text 0 at.1 ∙ ap (λ (n : ℕ). take n text ∷ slice_split p (drop (n + 1) text)) (sym at.0) in
    (split ∙ ap (λ (xs : List ℕ). take end text ∷ slice_split p xs) (sym whole), rw whole (omega (arith, length-drop (end + 1) text, at.0, at.1)))

-- the last line
pub cut_none : (p : ℕ → Bool) (text : List ℕ) → None ≡ position p text → slice_split p text ≡ text ∷ []
cut_none p text e =
    let past = none_of p text (ltb (position_or_len p text) (length text)) refl e in
    slice_split_none p text (λ k d h. fails_before_first p text k d (omega arith))

-- ---- lines that are read one after another

pub line_read : (number : ℕ) (slots longer : List Slot) (line : List ℕ) (texts : List (List ℕ)) → with_line slots line ≡ Ok longer
    → with_lines number slots (line ∷ texts) ≡ with_lines (number + 1) longer texts
unfolding with_lines
line_read number slots longer line texts e = ap (λ (r : Result (List Slot) RefusalNumber). then_lines (at_line number r) (λ all. with_lines (number + 1) all texts)) e

pub last_read : (number : ℕ) (slots longer : List Slot) (line : List ℕ) → with_line slots line ≡ Ok longer → with_lines number slots (line ∷ []) ≡ Ok longer
unfolding with_lines
last_read number slots longer line e = ap (λ (r : Result (List Slot) RefusalNumber). then_lines (at_line number r) (λ all. with_lines (number + 1) all [])) e

pub line_fails : (number : ℕ) (slots : List Slot) (line : List ℕ) (texts : List (List ℕ)) (e : AsmError) → at_line number (with_line slots line) ≡ Err e
    → with_lines number slots (line ∷ texts) ≡ Err e
unfolding with_lines
line_fails number slots line texts e fails = ap (λ (r : Result (List Slot) AsmError). then_lines r (λ all. with_lines (number + 1) all texts)) fails

-- what is left of a text always has a first line
pub some_line : {X : Type 0} (o : Option X) (all : List (List ℕ)) (line : List ℕ) (of : X → List (List ℕ)) (P : X → Type 0)
    → MatchOption o (all ≡ line ∷ []) (λ more. (all ≡ line ∷ of more) × P more) → (texts : List (List ℕ)) × (all ≡ line ∷ texts)
some_line None all line of P h = ([], h)
some_line (Some more) all line of P h = (of more, h.0)

pub at_none : {X : Type 0} (o : Option X) (P : Type 0) (Q : X → Type 0) → o ≡ None → MatchOption o P Q → P
at_none None P Q e h = h
at_none {X} (Some x) P Q e h = absurd (let g : ◌≡◌ {A = Option X} (Some x) None = e in cc)

pub at_some : {X : Type 0} (o : Option X) (x : X) (P : Type 0) (Q : X → Type 0) → o ≡ Some x → MatchOption o P Q → Q x
at_some o x P Q e h = subst (λ o. MatchOption o P Q) e h
