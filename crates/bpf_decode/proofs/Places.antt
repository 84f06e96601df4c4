-- The instructions of slots, one after the other.
use Rattle.std.proofs.Common.{◌≡◌, refl, sym, ap, ◌∙◌, subst, ℕ, suc, ◌<◌, ◌+◌, Bool, true, false, List, [], ◌∷◌, ◌++◌, Option, Some, None, Result, Ok, Err, slice_get, get_or, drop, length, arith, add-one}
use Rattle.std.specs.Prelude.{option_and_then, IsOk, IfSome}
use Rattle.std.specs.Result.{result_ok}
use Rattle.std.proofs.lemmas.List.FromFn.{map-range_with_len_more, length-map-range_with_len, get_or-map-range_with_len}
use Rattle.std.proofs.lemmas.Option.{slice_get-get_or}
use Rattle.refusals.specs.declared.RefusalNumber.{RefusalNumber}
use Rattle.bpf_profile.specs.declared.instruction.Instruction.{Instruction}
use Rattle.bpf_profile.specs.declared.slot.Slot.{Slot}
use Rattle.bpf_profile.specs.declared.slot.Slot.TheVariants.{Tail}
use Rattle.bpf_profile.specs.Meaning.{instruction_at}
use Rattle.bpf_profile.specs.Slots.{instruction_of}
use Rattle.bpf_profile.specs.Spelling.{IsProgram, is_wide}
use Rattle.bpf_profile.specs.SpellingFaults.{Fault, fault_from}
use Rattle.bpf_decode.specs.declared.error.DecodeError.{DecodeError}
use Rattle.bpf_decode.specs.Faults.{fault_of, found_fault}
use Rattle.bpf_decode.specs.Kept.{first_instructions, AreInstructions}
use Rattle.bpf_decode.proofs.Runs.{Begins, IsReadAt, next_first, wide_next, begins_if, run_none, program_run}

-- ---- reading one slot more

pub read_more : (slots : List Slot) (place : ℕ) (list more : List (Option Instruction)) (o : Option Instruction) → list ≡ first_instructions slots place
    → more ≡ list ++ (o ∷ []) → o ≡ instruction_at slots place → more ≡ first_instructions slots (place + 1)
read_more slots place list more o read pushed is =
    pushed
    ∙ (ap (λ (l : List (Option Instruction)). l ++ (o ∷ [])) read
    ∙ (ap (λ (x : Option Instruction). first_instructions slots place ++ (x ∷ [])) is
    ∙ sym (map-range_with_len_more (instruction_at slots) 0 place place (omega arith))))

-- a tail stands for no instruction
pub tail_none : (slots : List Slot) (place : ℕ) (second : Bool) → second ≡ true → Begins second (drop place slots) → None ≡ instruction_at slots place
unfolding instruction_of
tail_none slots place second is begins =
    let tail : Begins true (drop place slots) = subst (λ (b : Bool). Begins b (drop place slots)) is begins in
    sym (ap (λ (o : Option Slot). option_and_then (λ slot. result_ok (instruction_of slot (slice_get slots (suc place)))) o) (sym (next_first slots place) ∙ tail.1))

known : (slots : List Slot) (place : ℕ) (r : Result Instruction RefusalNumber) (d : Slot) → place < length slots → IsReadAt slots place r
    → r ≡ instruction_of (get_or slots place d) (slice_get slots (place + 1))
known slots place r d within read =
    subst (λ (o : Option Slot). IfSome o (λ slot. r ≡ instruction_of slot (slice_get slots (place + 1)))) (slice_get-get_or slots place d within) read

pub read_is : (slots : List Slot) (place : ℕ) (r : Result Instruction RefusalNumber) (i : Instruction) → place < length slots → IsReadAt slots place r → r ≡ Ok i
    → Some i ≡ instruction_at slots place
read_is slots place r i within read ok =
    let slot : Slot = get_or slots place (Tail 0) in
    sym (ap (λ (o : Option Slot). option_and_then (λ slot. result_ok (instruction_of slot (slice_get slots (suc place)))) o) (slice_get-get_or slots place (Tail 0) within)
    ∙ (ap (λ (n : ℕ). result_ok (instruction_of slot (slice_get slots n))) (sym (add-one place))
    ∙ ap result_ok (sym (known slots place r (Tail 0) within read) ∙ ok)))

pub begins_next : (slots : List Slot) (place : ℕ) (r : Result Instruction RefusalNumber) (i : Instruction) (wide : Bool) (d : Slot) → place < length slots → IsReadAt slots place r → r ≡ Ok i
    → wide ≡ is_wide (get_or slots place d) → Begins wide (drop (place + 1) slots)
begins_next slots place r i wide d within read ok is =
    let fits : IsOk (instruction_of (get_or slots place d) (slice_get slots (place + 1))) = subst (λ (x : Result Instruction RefusalNumber). IsOk x) (sym ok ∙ known slots place r d within read) refl in
    begins_if wide (drop (place + 1) slots) (λ w. let next = wide_next (get_or slots place d) (slice_get slots (place + 1)) (sym is ∙ w) fits in (next.0, next_first slots (place + 1) ∙ next.1))

-- ---- the instruction at a place of a list that was read

pub place_within : (slots : List Slot) (list : List (Option Instruction)) (place : ℕ) → AreInstructions slots list → place < length slots → place < length list
place_within slots list place read within = let all = ap length read ∙ length-map-range_with_len (instruction_at slots) 0 (length slots) in omega (arith, all, within)

pub instruction_there : (slots : List Slot) (list : List (Option Instruction)) (place : ℕ) (d : Option Instruction) → AreInstructions slots list → place < length slots
    → get_or list place d ≡ instruction_at slots place
instruction_there slots list place d read within =
    ap (λ (l : List (Option Instruction)). get_or l place d) read ∙ get_or-map-range_with_len (instruction_at slots) 0 (length slots) place place d within (omega arith)

-- ---- slots of a program are read

pub never_refused : (slots program : List Slot) (r : Result (Unit {0}) DecodeError) (e : DecodeError) → IsProgram program → slots ≡ program
    → found_fault r ≡ fault_from 0 false slots → r ≡ Err e → ⊥
never_refused slots program r e is same found err =
    let none : ◌≡◌ {A = Option Fault} (Some (fault_of e)) None = sym (ap found_fault err) ∙ (found ∙ (ap (fault_from 0 false) same ∙ run_none 0 false program (program_run program is))) in cc
