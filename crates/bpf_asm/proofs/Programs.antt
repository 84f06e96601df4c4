-- The slots of instructions are a program, and a program is the slots of its instructions.
use Rattle.std.proofs.Common.{◌≡◌, refl, sym, ap, ◌∙◌, subst, ℕ, ◌+◌, ◌*◌, ◌<◌, ◌≤◌, Bool, true, false, List, [], ◌∷◌, ◌++◌, length, slice_get, Option, Some, None, Result, Ok, Err, arith}
use Rattle.std.specs.Prelude.{option_to_list, IfSome, IsOk}
use Rattle.std.specs.List.{flat_map, AllByRecursion}
use Rattle.std.specs.Result.{result_ok}
use Rattle.std.proofs.lemmas.Bool.{ne_eqb}
use Rattle.refusals.specs.declared.RefusalNumber.{RefusalNumber}
use Rattle.bpf_profile.specs.declared.instruction.ByteOrder.TheVariants as order
use Rattle.bpf_profile.specs.declared.instruction.Instruction.{Instruction}
use Rattle.bpf_profile.specs.declared.instruction.Instruction.TheVariants as instruction
use Rattle.bpf_profile.specs.declared.instruction.Width.{Width}
use Rattle.bpf_profile.specs.declared.instruction.Width.TheVariants as width
use Rattle.bpf_profile.specs.declared.opcode.Source.{Source}
use Rattle.bpf_profile.specs.declared.opcode.Source.TheVariants as source
use Rattle.bpf_profile.specs.declared.slot.Slot.{Slot}
use Rattle.bpf_profile.specs.declared.slot.Slot.TheVariants.{Ins, Tail}
use Rattle.bpf_profile.specs.Limits.{most_slots}
use Rattle.bpf_profile.specs.Slots.{instruction_of}
use Rattle.bpf_profile.specs.Spelling.{IsSlot, IsProgram, is_wide}
use Rattle.bpf_decode.specs.OpcodeNumbers.{operation_code, source_bit, size_code, arithmetic_class, jump_class, store_class, comparison_code}
use Rattle.bpf_decode.specs.Encoding.{encoding, first_slot, second_slot, source_of, unsigned_operation, IsInstruction, Stands}
use Rattle.bpf_decode.proofs.Readings.{read_again}
use Rattle.bpf_decode.proofs.Inverse.{stands}
use Rattle.bpf_decode.proofs.Fits.{first_fits, second_fits}
use Rattle.bpf_decode.proofs.Runs.{IsRun, program_run, run_instructions, run_tails}
use Rattle.bpf_asm.specs.Assembly.{slots_of}
use Rattle.bpf_asm.specs.Canonical.{instructions_of}

-- ---- only one opcode begins a wide immediate

class_differs : (code bit : ℕ) (w : Width) → 16 * code + 8 * bit + arithmetic_class w ≡ 24 → ⊥
class_differs code bit width.Bits32 e = omega arith
class_differs code bit width.Bits64 e = omega arith

jump_differs : (code bit : ℕ) (w : Width) → 16 * code + 8 * bit + jump_class w ≡ 24 → ⊥
jump_differs code bit width.Bits32 e = omega arith
jump_differs code bit width.Bits64 e = omega arith

store_differs : (mode size : ℕ) (s : Source) → 32 * mode + 8 * size + store_class s ≡ 24 → ⊥
store_differs mode size source.Immediate e = omega arith
store_differs mode size source.Register e = omega arith

narrow : (i : Instruction) → second_slot i ≡ None → is_wide (first_slot i) ≡ false
narrow (instruction.Arithmetic o w d right) e = ne_eqb _ 24 (class_differs (operation_code (unsigned_operation o)) (source_bit (source_of right)) w)
narrow (instruction.Negate w d) e = ne_eqb _ 24 (class_differs 8 0 w)
narrow (instruction.MoveSigned w s d from) e = ne_eqb _ 24 (class_differs 11 1 w)
narrow (instruction.Convert order.Little s d) e = refl
narrow (instruction.Convert order.Big s d) e = refl
narrow (instruction.Convert order.Swap s d) e = refl
narrow (instruction.LoadImmediate d value) e = absurd (let g : ◌≡◌ {A = Option Slot} (second_slot (instruction.LoadImmediate d value)) None = e in cc)
narrow (instruction.Load s x d base offset) e = ne_eqb _ 24 (λ same. omega arith)
narrow (instruction.Store s base offset right) e = ne_eqb _ 24 (store_differs 3 (size_code s) (source_of right))
narrow (instruction.Jump width.Bits32 distance) e = refl
narrow (instruction.Jump width.Bits64 distance) e = refl
narrow (instruction.Branch c w left right distance) e = ne_eqb _ 24 (jump_differs (comparison_code c) (source_bit (source_of right)) w)
narrow (instruction.Call helper) e = refl
narrow instruction.Exit e = refl

-- ---- instructions one after another are a program

ok_is : {A E : Type 0} (r : Result A E) (a : A) → r ≡ Ok a → IsOk r
ok_is (Ok b) a e = refl
ok_is {A} {E} (Err b) a e = absurd (let g : ◌≡◌ {A = Result A E} (Err b) (Ok a) = e in cc)

plain_first : (slot : Slot) (rest : List Slot) (i : Instruction) → is_wide slot ≡ false → instruction_of slot (slice_get rest 0) ≡ Ok i → IsRun false rest → IsRun false (slot ∷ rest)
plain_first (Ins op dst src off imm) rest i plain e run = (ok_is _ i e, subst (λ (b : Bool). IsRun b rest) (sym plain) run)
plain_first (Tail imm) rest i plain e run = (ok_is _ i e, subst (λ (b : Bool). IsRun b rest) (sym plain) run)

encoding_runs : (i : Instruction) (tail : Option Slot) (rest : List Slot) → second_slot i ≡ tail → IsInstruction i → IsRun false rest → IsRun false (first_slot i ∷ (option_to_list tail ++ rest))
encoding_runs i None rest e is run =
    plain_first (first_slot i) rest i (narrow i e) (read_again i (slice_get rest 0) is (subst (λ (o : Option Slot). IfSome o (λ tail. slice_get rest 0 ≡ Some tail)) (sym e) tt)) run
encoding_runs (instruction.LoadImmediate d value) (Some tail) rest e is run =
    let same : second_slot (instruction.LoadImmediate d value) ≡ Some tail = e in
    subst (λ (o : Option Slot). IsRun false (first_slot (instruction.LoadImmediate d value) ∷ (option_to_list o ++ rest))) same
    (ok_is _ (instruction.LoadImmediate d value) (read_again (instruction.LoadImmediate d value) (second_slot (instruction.LoadImmediate d value)) is refl), run)
encoding_runs i (Some tail) rest e is run = absurd cc

statements_run : (statements : List (Option Instruction)) → AllByRecursion (λ s. IfSome s IsInstruction) statements → IsRun false (flat_map slots_of statements)
statements_run [] all = tt
statements_run (None ∷ statements) all = statements_run statements all.1
statements_run (Some i ∷ statements) all = encoding_runs i (second_slot i) (flat_map slots_of statements) refl all.0 (statements_run statements all.1)

tail_fits : (tail : Option Slot) (rest : List Slot) → IfSome tail IsSlot → AllByRecursion IsSlot rest → AllByRecursion IsSlot (option_to_list tail ++ rest)
tail_fits None rest h all = all
tail_fits (Some slot) rest h all = (h, all)

statements_fit : (statements : List (Option Instruction)) → AllByRecursion (λ s. IfSome s IsInstruction) statements → AllByRecursion IsSlot (flat_map slots_of statements)
statements_fit [] all = tt
statements_fit (None ∷ statements) all = statements_fit statements all.1
statements_fit (Some i ∷ statements) all = (first_fits i all.0, tail_fits (second_slot i) (flat_map slots_of statements) (second_fits i all.0) (statements_fit statements all.1))

pub statements_are_program : (statements : List (Option Instruction)) → AllByRecursion (λ s. IfSome s IsInstruction) statements → 0 < length (flat_map slots_of statements)
    → length (flat_map slots_of statements) ≤ most_slots → IsProgram (flat_map slots_of statements)
statements_are_program statements all some few =
    let run = statements_run statements all in
    record {
      some = some;
      few = few;
      fields = statements_fit statements all;
      instructions = run_instructions (flat_map slots_of statements) run;
      tails = run_tails (flat_map slots_of statements) run;
    }

-- ---- a program is the slots of its instructions

-- what a slot that is no tail stands for, with the slots behind it
pub record Begins (slot : Slot) (rest : List Slot) : Type 0 where
  pub instruction : Instruction
  pub is : instruction_of slot (slice_get rest 0) ≡ Ok instruction
  pub stands : Stands slot (slice_get rest 0) instruction

next_fits : (rest : List Slot) → AllByRecursion IsSlot rest → IfSome (slice_get rest 0) IsSlot
next_fits [] all = tt
next_fits (slot ∷ rest) all = all.0

begins_with : (slot : Slot) (rest : List Slot) (r : Result Instruction RefusalNumber) → instruction_of slot (slice_get rest 0) ≡ r → IsOk r → IsSlot slot → AllByRecursion IsSlot rest → Begins slot rest
begins_with slot rest (Ok i) e ok fits all = record { instruction = i; is = e; stands = stands slot (slice_get rest 0) i fits (next_fits rest all) e }
begins_with slot rest (Err number) e ok fits all = absurd cc

no_second : (slot : Slot) (rest : List Slot) (i : Instruction) → Stands slot (slice_get rest 0) i → second_slot i ≡ None → is_wide slot ≡ false
no_second slot rest i stands none = subst (λ (s : Slot). is_wide s ≡ false) stands.first (narrow i none)

wide_first : (i : Instruction) (tail : Slot) → second_slot i ≡ Some tail → is_wide (first_slot i) ≡ true
wide_first (instruction.LoadImmediate d value) tail e = refl
wide_first i tail e = absurd cc

-- the slots of a program's instructions are its slots; after the first slot of a wide immediate its tail is still to come
abbrev IsListed : Bool → List Slot → Type 0
IsListed false slots = flat_map encoding (instructions_of slots) ≡ slots
IsListed true slots = (tail : Slot) → slice_get slots 0 ≡ Some tail → tail ∷ flat_map encoding (instructions_of slots) ≡ slots

after_first : (slot : Slot) (rest : List Slot) (i : Instruction) (second : Option Slot) → second_slot i ≡ second → Stands slot (slice_get rest 0) i → IsListed (is_wide slot) rest
    → first_slot i ∷ (option_to_list second ++ flat_map encoding (instructions_of rest)) ≡ slot ∷ rest
after_first slot rest i None e stands later =
    let there : IsListed false rest = subst (λ (wide : Bool). IsListed wide rest) (no_second slot rest i stands e) later in
    ap (λ (s : Slot). s ∷ flat_map encoding (instructions_of rest)) stands.first ∙ ap (λ (xs : List Slot). slot ∷ xs) there
after_first slot rest i (Some tail) e stands later =
    let wide = ap is_wide (sym stands.first) ∙ wide_first i tail e in
    let next : slice_get rest 0 ≡ Some tail = subst (λ (o : Option Slot). IfSome o (λ tail. slice_get rest 0 ≡ Some tail)) e stands.second in
    let there : IsListed true rest = subst (λ (wide : Bool). IsListed wide rest) wide later in
    ap (λ (s : Slot). s ∷ tail ∷ flat_map encoding (instructions_of rest)) stands.first ∙ ap (λ (xs : List Slot). slot ∷ xs) (there tail next)

same_tail : (a b : Slot) → ◌≡◌ {A = Option Slot} (Some a) (Some b) → a ≡ b
same_tail a b e = cc

run_is_listed : (wide : Bool) (slots : List Slot) → IsRun wide slots → AllByRecursion IsSlot slots → IsListed wide slots
unfolding instruction_of
run_is_listed true [] run all = absurd run
run_is_listed true (Ins op dst src off imm ∷ rest) run all = absurd run
run_is_listed true (Tail high ∷ rest) run all =
    λ tail e. ap (λ (s : Slot). s ∷ flat_map encoding (instructions_of rest)) (sym (same_tail (Tail high) tail e)) ∙ ap (λ (xs : List Slot). Tail high ∷ xs) (run_is_listed false rest run all.1)
run_is_listed false [] run all = refl
run_is_listed false (slot ∷ rest) run all =
    let b = begins_with slot rest (instruction_of slot (slice_get rest 0)) refl run.0 all.0 all.1 in
    ap (λ (r : Result Instruction RefusalNumber). flat_map encoding (option_to_list (result_ok r) ++ instructions_of rest)) b.is
    ∙ after_first slot rest b.instruction (second_slot b.instruction) refl b.stands (run_is_listed (is_wide slot) rest run.1 all.1)

pub program_is_listed : (slots : List Slot) → IsProgram slots → flat_map encoding (instructions_of slots) ≡ slots
program_is_listed slots program = run_is_listed false slots (program_run slots program) program.fields

-- and each of them is one of the profile
run_fits : (wide : Bool) (slots : List Slot) → IsRun wide slots → AllByRecursion IsSlot slots → AllByRecursion IsInstruction (instructions_of slots)
unfolding instruction_of
run_fits true [] run all = absurd run
run_fits true (Ins op dst src off imm ∷ rest) run all = absurd run
run_fits true (Tail high ∷ rest) run all = run_fits false rest run all.1
run_fits false [] run all = tt
run_fits false (slot ∷ rest) run all =
    let b = begins_with slot rest (instruction_of slot (slice_get rest 0)) refl run.0 all.0 all.1 in
    subst (λ (r : Result Instruction RefusalNumber). AllByRecursion IsInstruction (option_to_list (result_ok r) ++ instructions_of rest)) (sym b.is)
    (b.stands.instruction, run_fits (is_wide slot) rest run.1 all.1)

pub program_fits : (slots : List Slot) → IsProgram slots → AllByRecursion IsInstruction (instructions_of slots)
program_fits slots program = run_fits false slots (program_run slots program) program.fields
