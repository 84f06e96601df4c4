-- Slots without a fault, from a place on: what the loop asks of them, and what `IsProgram` says of them.
use Rattle.std.proofs.Common.{◌≡◌, refl, sym, ℕ, zero, suc, ◌<◌, Bool, true, false, cond, List, [], ◌∷◌, Option, Some, None, Result, Ok, Err, subst, slice_get, get_or, drop, length, ◌+◌, ◌≤◌, ap, ◌∙◌, add-one}
use Rattle.std.specs.Prelude.{IsOk, IfSome, ◌==◌, nat_lt, ◌&&◌}
use Rattle.std.proofs.lemmas.Bool.{eqb-true}
use Rattle.std.proofs.lemmas.List.{drop_more, drop_all}
use Rattle.std.proofs.lemmas.Option.{same_Some, slice_get-get_or}
use Rattle.refusals.specs.declared.RefusalNumber.{RefusalNumber}
use Rattle.refusals.specs.declared.RefusalNumber.TheVariants.{LeftOut, BadField, BadRegister, BadTail}
use Rattle.bpf_profile.specs.declared.instruction.Instruction.{Instruction}
use Rattle.bpf_profile.specs.declared.opcode.Opcode.TheVariants as is
use Rattle.bpf_profile.specs.declared.slot.Slot.{Slot}
use Rattle.bpf_profile.specs.declared.slot.Slot.TheVariants.{Ins, Tail}
use Rattle.bpf_profile.specs.Opcodes.{opcode_of, immediate_opcode}
use Rattle.bpf_profile.specs.Slots.{instruction_of, read_fields, is_left_out}
use Rattle.bpf_profile.specs.Spelling.{IsProgram, FollowsWide, is_tail, is_wide}
use Rattle.bpf_profile.specs.SpellingFaults.{Fault, fault_or, fault_from}

-- the slots stand after the first slot of a wide immediate, or they don't, and have no fault
abbrev pub IsRun : Bool → List Slot → Type 0
IsRun true [] = ⊥
IsRun false [] = Unit {0}
IsRun true (Ins op dst src off imm ∷ slots) = ⊥
IsRun true (Tail high ∷ slots) = IsRun false slots
IsRun false (slot ∷ slots) = IsOk (instruction_of slot (slice_get slots 0)) × IsRun (is_wide slot) slots

-- a tail stands first, where it has to
abbrev pub Begins : Bool → List Slot → Type 0
Begins true slots = (high : ℕ) × (slice_get slots 0 ≡ Some (Tail high))
Begins false slots = Unit {0}

-- ---- a wide immediate and its tail

all_hold : (a b c : Bool) (r : Result Instruction RefusalNumber) → IsOk (cond a (Err LeftOut) (cond b (cond c r (Err BadRegister)) (Err BadField))) → IsOk r
all_hold true b c r ok = absurd cc
all_hold false false c r ok = absurd cc
all_hold false true false r ok = absurd cc
all_hold false true true r ok = ok

tail_next : (dst src off imm : ℕ) (next : Option Slot) → IsOk (instruction_of (Ins 24 dst src off imm) next) → (high : ℕ) × (next ≡ Some (Tail high))
unfolding instruction_of opcode_of immediate_opcode read_fields
tail_next dst src off imm None ok =
    let no = all_hold (is_left_out is.LoadImmediate src) ((src == 0) && (off == 0)) (nat_lt dst 10 && nat_lt src 11) (Err BadTail) ok in absurd cc
tail_next dst src off imm (Some (Ins op' dst' src' off' imm')) ok =
    let no = all_hold (is_left_out is.LoadImmediate src) ((src == 0) && (off == 0)) (nat_lt dst 10 && nat_lt src 11) (Err BadTail) ok in absurd cc
tail_next dst src off imm (Some (Tail high)) ok = (high, refl)

not_ok : (number : RefusalNumber) (r : Result Instruction RefusalNumber) → r ≡ Err number → IsOk r → ⊥
not_ok number (Ok instruction) e ok = cc
not_ok number (Err other) e ok = cc

pub wide_next : (slot : Slot) (next : Option Slot) → is_wide slot ≡ true → IsOk (instruction_of slot next) → (high : ℕ) × (next ≡ Some (Tail high))
wide_next (Ins op dst src off imm) next wide ok = tail_next dst src off imm next (subst (λ (o : ℕ). IsOk (instruction_of (Ins o dst src off imm) next)) (eqb-true op 24 wide) ok)
wide_next (Tail imm) next wide ok = absurd cc

pub begins_if : (wide : Bool) (slots : List Slot) → (wide ≡ true → (high : ℕ) × (slice_get slots 0 ≡ Some (Tail high))) → Begins wide slots
begins_if true slots h = h refl
begins_if false slots h = tt

begins_after : (slot : Slot) (slots : List Slot) → IsOk (instruction_of slot (slice_get slots 0)) → Begins (is_wide slot) slots
begins_after slot slots ok = begins_if (is_wide slot) slots (λ wide. wide_next slot (slice_get slots 0) wide ok)

no_tail : (high : ℕ) (next : Option Slot) → IsOk (instruction_of (Tail high) next) → ⊥
unfolding instruction_of
no_tail high next ok = cc

-- ---- no fault

no_fault : (place : ℕ) (r : Result Instruction RefusalNumber) (later : Option Fault) → fault_or place r later ≡ None → IsOk r × (later ≡ None)
no_fault place (Ok instruction) later e = (refl, e)
no_fault place (Err number) later e = absurd cc

fault_none : (place : ℕ) (r : Result Instruction RefusalNumber) (later : Option Fault) → IsOk r → later ≡ None → fault_or place r later ≡ None
fault_none place (Ok instruction) later ok e = e
fault_none place (Err number) later ok e = absurd cc

pub none_run : (place : ℕ) (tail : Bool) (slots : List Slot) → Begins tail slots → fault_from place tail slots ≡ None → IsRun tail slots
unfolding fault_from
none_run place true [] begins e = absurd (let h = begins.1 in cc)
none_run place false [] begins e = tt
none_run place true (Ins op dst src off imm ∷ slots) begins e = absurd (let h = begins.1 in cc)
none_run place true (Tail high ∷ slots) begins e = none_run (suc place) false slots tt e
none_run place false (slot ∷ slots) begins e =
    let parts = no_fault place (instruction_of slot (slice_get slots 0)) (fault_from (suc place) (is_wide slot) slots) e in
    (parts.0, none_run (suc place) (is_wide slot) slots (begins_after slot slots parts.0) parts.1)

pub run_none : (place : ℕ) (tail : Bool) (slots : List Slot) → IsRun tail slots → fault_from place tail slots ≡ None
unfolding fault_from
run_none place true [] run = absurd run
run_none place false [] run = refl
run_none place true (Ins op dst src off imm ∷ slots) run = absurd run
run_none place true (Tail high ∷ slots) run = run_none (suc place) false slots run
run_none place false (slot ∷ slots) run =
    fault_none place (instruction_of slot (slice_get slots 0)) (fault_from (suc place) (is_wide slot) slots) run.0 (run_none (suc place) (is_wide slot) slots run.1)

-- ---- place by place

-- what stands right before a tail, where what stands before the first slot is told by the flag
abbrev pub FollowsFrom : Bool → List Slot → ℕ → Type 0
FollowsFrom tail slots zero = tail ≡ true
FollowsFrom tail slots (suc before) = (wide : Slot) × (slice_get slots before ≡ Some wide) × (is_wide wide ≡ true)

shift : (slot : Slot) (slots : List Slot) (place : ℕ) → FollowsFrom (is_wide slot) slots place → FollowsFrom false (slot ∷ slots) (suc place)
shift slot slots zero follows = (slot, refl, follows)
shift slot slots (suc before) follows = follows

shift_back : (tail : Bool) (slot : Slot) (slots : List Slot) (place : ℕ) → FollowsFrom tail (slot ∷ slots) (suc place) → FollowsFrom (is_wide slot) slots place
shift_back tail slot slots zero follows = subst (λ (s : Slot). is_wide s ≡ true) (sym (same_Some _ _ follows.1)) follows.2
shift_back tail slot slots (suc before) follows = follows

run_instruction : (tail : Bool) (slots : List Slot) → IsRun tail slots → (place : ℕ) (slot : Slot) → slice_get slots place ≡ Some slot → is_tail slot ≡ false → IsOk (instruction_of slot (slice_get slots (suc place)))
run_instruction tail [] run place slot at begins = absurd cc
run_instruction true (Ins op dst src off imm ∷ slots) run place slot at begins = absurd run
run_instruction true (Tail high ∷ slots) run zero slot at begins =
    let e : true ≡ false = subst (λ (s : Slot). is_tail s ≡ false) (sym (same_Some _ _ at)) begins in absurd cc
run_instruction true (Tail high ∷ slots) run (suc place) slot at begins = run_instruction false slots run place slot at begins
run_instruction false (first ∷ slots) run zero slot at begins = subst (λ (s : Slot). IsOk (instruction_of s (slice_get slots 0))) (same_Some _ _ at) run.0
run_instruction false (first ∷ slots) run (suc place) slot at begins = run_instruction (is_wide first) slots run.1 place slot at begins

run_tail : (tail : Bool) (slots : List Slot) → IsRun tail slots → (place high : ℕ) → slice_get slots place ≡ Some (Tail high) → FollowsFrom tail slots place
run_tail tail [] run place high at = absurd cc
run_tail true (Ins op dst src off imm ∷ slots) run place high at = absurd run
run_tail true (Tail first ∷ slots) run zero high at = refl
run_tail true (Tail first ∷ slots) run (suc place) high at = shift (Tail first) slots place (run_tail false slots run place high at)
run_tail false (first ∷ slots) run zero high at =
    absurd (no_tail high (slice_get slots 0) (subst (λ (s : Slot). IsOk (instruction_of s (slice_get slots 0))) (same_Some _ _ at) run.0))
run_tail false (first ∷ slots) run (suc place) high at = shift first slots place (run_tail (is_wide first) slots run.1 place high at)

facts_run : (tail : Bool) (slots : List Slot) → Begins tail slots
    → ((place : ℕ) (slot : Slot) → slice_get slots place ≡ Some slot → is_tail slot ≡ false → IsOk (instruction_of slot (slice_get slots (suc place))))
    → ((place high : ℕ) → slice_get slots place ≡ Some (Tail high) → FollowsFrom tail slots place) → IsRun tail slots
facts_run true [] begins instructions tails = absurd (let h = begins.1 in cc)
facts_run false [] begins instructions tails = tt
facts_run true (Ins op dst src off imm ∷ slots) begins instructions tails = absurd (let h = begins.1 in cc)
facts_run true (Tail high ∷ slots) begins instructions tails =
    facts_run false slots tt (λ place. instructions (suc place)) (λ place h at. shift_back true (Tail high) slots place (tails (suc place) h at))
facts_run false (Tail high ∷ slots) begins instructions tails = let h = tails zero high refl in absurd cc
facts_run false (Ins op dst src off imm ∷ slots) begins instructions tails =
    let slot : Slot = Ins op dst src off imm in
    let ok = instructions zero slot refl refl in
    (ok, facts_run (is_wide slot) slots (begins_after slot slots ok) (λ place. instructions (suc place)) (λ place h at. shift_back false slot slots place (tails (suc place) h at)))

-- ---- programs

follows_wide : (slots : List Slot) (place : ℕ) → FollowsFrom false slots place → FollowsWide slots place
follows_wide slots zero follows = absurd cc
follows_wide slots (suc before) follows = (before, follows.0, refl, follows.1, follows.2)

follows_from : (slots : List Slot) (place : ℕ) → FollowsWide slots place → FollowsFrom false slots place
follows_from slots place follows = subst (λ (p : ℕ). FollowsFrom false slots p) (sym follows.2) (follows.1, follows.3, follows.4)

pub program_run : (slots : List Slot) → IsProgram slots → IsRun false slots
program_run slots program = facts_run false slots tt program.instructions (λ place high at. follows_from slots place (program.tails place high at))

pub run_instructions : (slots : List Slot) → IsRun false slots → (place : ℕ) (slot : Slot) → slice_get slots place ≡ Some slot → is_tail slot ≡ false → IsOk (instruction_of slot (slice_get slots (suc place)))
run_instructions slots run = run_instruction false slots run

pub run_tails : (slots : List Slot) → IsRun false slots → (place high : ℕ) → slice_get slots place ≡ Some (Tail high) → FollowsWide slots place
run_tails slots run place high at = follows_wide slots place (run_tail false slots run place high at)

-- ---- one slot after the other

pub next_first : (slots : List Slot) (place : ℕ) → slice_get (drop place slots) 0 ≡ slice_get slots place
next_first [] zero = refl
next_first [] (suc place) = refl
next_first (slot ∷ slots) zero = refl
next_first (slot ∷ slots) (suc place) = next_first slots place

pub skips : (slots : List Slot) (place : ℕ) (second : Bool) (total : Option Fault) → place < length slots → second ≡ true
    → fault_from place second (drop place slots) ≡ total → fault_from (place + 1) false (drop (place + 1) slots) ≡ total
unfolding fault_from
skips slots place second total within is so_far =
    let step : fault_from place true (drop place slots) ≡ fault_from (place + 1) false (drop (place + 1) slots) = rw (drop_more slots place (Tail 0) within, add-one place) refl in
    sym step ∙ sym (ap (λ (b : Bool). fault_from place b (drop place slots)) is) ∙ so_far

-- what is known of the slot at a place
abbrev pub IsReadAt : List Slot → ℕ → Result Instruction RefusalNumber → Type 0
IsReadAt slots place r = IfSome (slice_get slots place) (λ slot. r ≡ instruction_of slot (slice_get slots (place + 1)))

looks : (slots : List Slot) (place : ℕ) (r : Result Instruction RefusalNumber) (d : Slot) → place < length slots → IsReadAt slots place r
    → fault_from place false (drop place slots) ≡ fault_or place r (fault_from (place + 1) (is_wide (get_or slots place d)) (drop (place + 1) slots))
unfolding fault_from
looks slots place r d within read =
    let known : r ≡ instruction_of (get_or slots place d) (slice_get slots (place + 1)) =
    subst (λ (o : Option Slot). IfSome o (λ slot. r ≡ instruction_of slot (slice_get slots (place + 1)))) (slice_get-get_or slots place d within) read in
    rw (known, drop_more slots place d within, next_first slots (place + 1), add-one place) refl

pub goes_on : (slots : List Slot) (place : ℕ) (r : Result Instruction RefusalNumber) (instruction : Instruction) (second wide : Bool) (d : Slot) (total : Option Fault)
    → place < length slots → IsReadAt slots place r → r ≡ Ok instruction → second ≡ false → wide ≡ is_wide (get_or slots place d)
    → fault_from place second (drop place slots) ≡ total → fault_from (place + 1) wide (drop (place + 1) slots) ≡ total
goes_on slots place r instruction second wide d total within read ok first is so_far =
    let later : Option Fault = fault_from (place + 1) (is_wide (get_or slots place d)) (drop (place + 1) slots) in
    ap (λ (b : Bool). fault_from (place + 1) b (drop (place + 1) slots)) is
    ∙ sym (ap (λ (x : Result Instruction RefusalNumber). fault_or place x later) ok)
    ∙ sym (looks slots place r d within read)
    ∙ sym (ap (λ (b : Bool). fault_from place b (drop place slots)) first)
    ∙ so_far

pub ends : (slots : List Slot) (place : ℕ) (r : Result Instruction RefusalNumber) (number : RefusalNumber) (second : Bool) (total : Option Fault)
    → place < length slots → IsReadAt slots place r → r ≡ Err number → second ≡ false
    → fault_from place second (drop place slots) ≡ total → Some (record { slot = place; number = number }) ≡ total
ends slots place r number second total within read err first so_far =
    let later : Option Fault = fault_from (place + 1) (is_wide (get_or slots place (Tail 0))) (drop (place + 1) slots) in
    sym (ap (λ (x : Result Instruction RefusalNumber). fault_or place x later) err)
    ∙ sym (looks slots place r (Tail 0) within read)
    ∙ sym (ap (λ (b : Bool). fault_from place b (drop place slots)) first)
    ∙ so_far

pub is_done : (slots : List Slot) (place : ℕ) (second : Bool) (total : Option Fault) → length slots ≤ place → fault_from place second (drop place slots) ≡ total → None ≡ total
unfolding fault_from
is_done slots place second total past so_far = sym (ap (fault_from place second) (drop_all place slots past)) ∙ so_far

-- the instruction at a place of a program
pub is_refused : (slots : List Slot) (place : ℕ) (r : Result Instruction RefusalNumber) (number : RefusalNumber) → IsProgram slots → place < length slots
    → IsReadAt slots place r → IfSome (slice_get slots place) (λ slot. is_tail slot ≡ false) → r ≡ Err number → ⊥
is_refused slots place r number program within read begins err =
    let at = slice_get-get_or slots place (Tail 0) within in
    let slot : Slot = get_or slots place (Tail 0) in
    let known : r ≡ instruction_of slot (slice_get slots (place + 1)) =
    subst (λ (o : Option Slot). IfSome o (λ slot. r ≡ instruction_of slot (slice_get slots (place + 1)))) at read in
    let first : is_tail slot ≡ false = subst (λ (o : Option Slot). IfSome o (λ slot. is_tail slot ≡ false)) at begins in
    let ok : IsOk (instruction_of slot (slice_get slots (suc place))) = program.instructions place slot at first in
    not_ok number r err (rw (known, add-one place) ok)
