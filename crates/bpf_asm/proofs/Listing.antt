-- The text of a program, instruction by instruction.
use Rattle.std.proofs.Common.{◌≡◌, refl, sym, ap, ◌∙◌, ℕ, zero, suc, ◌+◌, ◌<◌, List, [], ◌∷◌, ◌++◌, length, drop, Option, Some, None, append_assoc, add-one, arith}
use Rattle.std.specs.Prelude.{option_to_list}
use Rattle.std.specs.List.{flat_map}
use Rattle.bpf_profile.specs.declared.instruction.Instruction.{Instruction}
use Rattle.bpf_profile.specs.declared.slot.Slot.{Slot}
use Rattle.bpf_profile.specs.Meaning.{instruction_at}
use Rattle.bpf_asm.specs.Canonical.{line_of, instructions_of, text_of}

instructions_at : (slots : List Slot) (place : ℕ) → place < length slots
    → instructions_of (drop place slots) ≡ option_to_list (instruction_at slots place) ++ instructions_of (drop (suc place) slots)
instructions_at [] place h = absurd (omega arith)
instructions_at (slot ∷ slots) zero h = refl
instructions_at (slot ∷ slots) (suc place) h = instructions_at slots place (omega arith)

-- one turn: where a slot stands for an instruction its line is appended, and else nothing is
pub appends_line : (slots : List Slot) (place : ℕ) (i : Instruction) (old new all : List ℕ) → place < length slots → Some i ≡ instruction_at slots place
    → new ≡ old ++ (line_of i ++ (10 ∷ [])) → old ++ text_of (drop place slots) ≡ all → new ++ text_of (drop (place + 1) slots) ≡ all
appends_line slots place i old new all h e appended before =
    let here : text_of (drop place slots) ≡ (line_of i ++ (10 ∷ [])) ++ text_of (drop (suc place) slots) =
    ap (flat_map (λ i. line_of i ++ (10 ∷ []))) (instructions_at slots place h)
    ∙ ap (λ (o : Option Instruction). flat_map (λ i. line_of i ++ (10 ∷ [])) (option_to_list o ++ instructions_of (drop (suc place) slots))) (sym e) in
    rw add-one (ap (λ (xs : List ℕ). xs ++ text_of (drop (suc place) slots)) appended ∙ append_assoc old (line_of i ++ (10 ∷ [])) (text_of (drop (suc place) slots)) ∙ ap (λ (xs : List ℕ). old ++ xs) (sym here) ∙ before)

pub appends_nothing : (slots : List Slot) (place : ℕ) (all old : List ℕ) → place < length slots → None ≡ instruction_at slots place
    → old ++ text_of (drop place slots) ≡ all → old ++ text_of (drop (place + 1) slots) ≡ all
appends_nothing slots place all old h e before =
    let here : text_of (drop place slots) ≡ text_of (drop (suc place) slots) =
    ap (flat_map (λ i. line_of i ++ (10 ∷ []))) (instructions_at slots place h)
    ∙ ap (λ (o : Option Instruction). flat_map (λ i. line_of i ++ (10 ∷ [])) (option_to_list o ++ instructions_of (drop (suc place) slots))) (sym e) in
    rw add-one (ap (λ (xs : List ℕ). old ++ xs) (sym here) ∙ before)
