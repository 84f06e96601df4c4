-- The edges of a program whose flow is accepted lead forward, to instructions.
use Rattle.std.proofs.Common.{◌≡◌, ℕ, zero, suc, ◌+◌, ◌*◌, ◌^◌, ◌<◌, ◌≤◌, ◌==◌, ◌⊎◌, inl, inr, Bool, true, false, cond, List, [], ◌∷◌, ◌++◌, length, Option, Some, None, Result, Ok, Err, refl, sym, ap, ◌∙◌, subst, arith}
use Rattle.std.proofs.Math.Nat.{mod-eq_of_lt}
use Rattle.std.specs.Prelude.{slice_get, option_and_then, option_map, option_to_list, Contains, nat_le, IsSome, IsOk}
use Rattle.std.specs.Option.{option_or, option_map_or}
use Rattle.std.specs.Result.{result_ok}
use Rattle.std.proofs.lemmas.Bool.{leb-false, eqb-true, cond_both}
use Rattle.std.proofs.lemmas.Option.{slice_get_within}
use Rattle.refusals.specs.declared.RefusalNumber.{RefusalNumber}
use Rattle.refusals.specs.declared.RefusalNumber.TheVariants as refusal
use Rattle.bpf_profile.specs.declared.instruction.Instruction.{Instruction}
use Rattle.bpf_profile.specs.declared.instruction.Instruction.TheVariants as instruction
use Rattle.bpf_profile.specs.declared.slot.Slot.{Slot}
use Rattle.bpf_profile.specs.declared.slot.Slot.TheVariants.{Ins, Tail}
use Rattle.bpf_profile.specs.declared.fields.Fields.{Fields}
use Rattle.bpf_profile.specs.Limits.{most_slots}
use Rattle.bpf_profile.specs.Flow.{successors, Edge, edges_of, next_of, distance_of}
use Rattle.bpf_profile.specs.FlowFaults.{flow_fault, flow_fault_from, flow_fault_at, flow_fault_of, is_tail_at, is_entered, jump_fault, next_fault}
use Rattle.bpf_profile.specs.Machine.{target_of}
use Rattle.bpf_profile.specs.Meaning.{instruction_at}
use Rattle.bpf_profile.specs.Opcodes.{opcode_of, immediate_opcode}
use Rattle.bpf_profile.specs.declared.instruction.Operation.{Operation}
use Rattle.bpf_profile.specs.declared.instruction.Width.{Width}
use Rattle.bpf_profile.specs.declared.instruction.Width.TheVariants as width
use Rattle.bpf_profile.specs.declared.opcode.Opcode.{Opcode}
use Rattle.bpf_profile.specs.declared.opcode.Opcode.TheVariants as is
use Rattle.bpf_profile.specs.declared.opcode.Source.{Source}
use Rattle.bpf_profile.specs.Slots.{instruction_of, read_fields, read_opcode, wide_instruction, instruction_with, arithmetic_instruction, fields_fit, registers_fit, is_left_out}
use Rattle.bpf_profile.specs.Spelling.{IsProgram, FollowsWide, is_tail, is_wide}

-- ---- options, results and tests

or_none : {A : Type 0} (a b : Option A) → option_or a b ≡ None → (a ≡ None) × (b ≡ None)
or_none None b e = (refl, e)
or_none {A} (Some x) b e = absurd (let f : ◌≡◌ {A = Option A} (Some x) None = e in cc)

map_none : {A B : Type 0} (f : A → B) (o : Option A) → option_map f o ≡ None → o ≡ None
map_none f None e = refl
map_none {A} {B} f (Some x) e = absurd (let g : ◌≡◌ {A = Option B} (Some (f x)) None = e in cc)

-- a choice that is none, where one side is some
cond_none : {A : Type 0} (test : Bool) (x : A) (o : Option A) → cond test (Some x) o ≡ None → (test ≡ false) × (o ≡ None)
cond_none {A} true x o e = absurd (let g : ◌≡◌ {A = Option A} (Some x) None = e in cc)
cond_none false x o e = (refl, e)

cond_then : {A : Type 0} (test : Bool) (x : A) (o : Option A) → cond test o (Some x) ≡ None → o ≡ None
cond_then true x o e = e
cond_then {A} false x o e = absurd (let g : ◌≡◌ {A = Option A} (Some x) None = e in cc)

cond_ok : {A E : Type 0} (test : Bool) (e : E) (r : Result A E) (x : A) → cond test (Err e) r ≡ Ok x → r ≡ Ok x
cond_ok {A} {E} true e r x h = absurd (let g : ◌≡◌ {A = Result A E} (Err e) (Ok x) = h in cc)
cond_ok false e r x h = h

cond_ok_then : {A E : Type 0} (test : Bool) (e : E) (r : Result A E) (x : A) → cond test r (Err e) ≡ Ok x → r ≡ Ok x
cond_ok_then true e r x h = h
cond_ok_then {A} {E} false e r x h = absurd (let g : ◌≡◌ {A = Result A E} (Err e) (Ok x) = h in cc)

ok_of : {A E : Type 0} (r : Result A E) (x : A) → result_ok r ≡ Some x → r ≡ Ok x
ok_of {A} {E} (Ok y) x e = let f : ◌≡◌ {A = Option A} (Some y) (Some x) = e in ap Ok (some_is y x f)
  where
    some_is : (y x : A) → ◌≡◌ {A = Option A} (Some y) (Some x) → y ≡ x
    some_is y x f = cc
ok_of {A} {E} (Err y) x e = absurd (let f : ◌≡◌ {A = Option A} None (Some x) = e in cc)

ok_is_some : {A E : Type 0} (r : Result A E) → IsOk r → IsSome (result_ok r)
ok_is_some (Ok y) h = h
ok_is_some (Err y) h = h

-- an element of two options in a row
in_options : (a b : Option ℕ) (x : ℕ) → Contains (option_to_list a ++ option_to_list b) x → (a ≡ Some x) ⊎ (b ≡ Some x)
in_options None None x (k, h, e) = absurd (omega arith)
in_options None (Some b) x (zero, h, e) = inr (ap Some e)
in_options None (Some b) x (suc k, h, e) = absurd (omega arith)
in_options (Some a) None x (zero, h, e) = inl (ap Some e)
in_options (Some a) None x (suc k, h, e) = absurd (omega arith)
in_options (Some a) (Some b) x (zero, h, e) = inl (ap Some e)
in_options (Some a) (Some b) x (suc zero, h, e) = inr (ap Some e)
in_options (Some a) (Some b) x (suc (suc k), h, e) = absurd (omega arith)

-- ---- slots and instructions

has_slot : (slots : List Slot) (place : ℕ) → place < length slots → (slot : Slot) × (slice_get slots place ≡ Some slot)
has_slot [] place h = absurd (omega arith)
has_slot (slot ∷ slots) zero h = (slot, refl)
has_slot (slot ∷ slots) (suc place) h = has_slot slots place (omega arith)

by_slot : (o : Option Slot) (next : Option Slot) (i : Instruction) → option_and_then (λ slot. result_ok (instruction_of slot next)) o ≡ Some i → (slot : Slot) × (o ≡ Some slot) × (instruction_of slot next ≡ Ok i)
by_slot None next i e = absurd (let f : ◌≡◌ {A = Option Instruction} None (Some i) = e in cc)
by_slot (Some slot) next i e = (slot, refl, ok_of (instruction_of slot next) i e)

-- the slot of an instruction
pub slot_of : (slots : List Slot) (place : ℕ) (i : Instruction) → instruction_at slots place ≡ Some i → (slot : Slot) × (slice_get slots place ≡ Some slot) × (instruction_of slot (slice_get slots (suc place)) ≡ Ok i)
slot_of slots place i e = by_slot (slice_get slots place) (slice_get slots (suc place)) i e

-- in a program a slot that is no tail has an instruction
pub instruction_there : (slots : List Slot) → IsProgram slots → (place : ℕ) → place < length slots → is_tail_at slots place ≡ false → IsSome (instruction_at slots place)
instruction_there slots program place h plain =
    let there = has_slot slots place h in
    let same = there.1 in
    let no_tail : is_tail there.0 ≡ false = ap (λ (o : Option Slot). option_map_or is_tail o false) (sym same) ∙ plain in
    let ok = ok_is_some _ (program.instructions place there.0 same no_tail) in
    subst (λ (o : Option Slot). IsSome (option_and_then (λ slot. result_ok (instruction_of slot (slice_get slots (suc place)))) o)) (sym same) ok

-- fields with no fault are those of an instruction
fields_pass : (opcode : Opcode) (f : Fields) (next : Option Slot) (i : Instruction) → read_fields opcode f next ≡ Ok i → instruction_with opcode f next ≡ Ok i
unfolding read_fields
fields_pass opcode f next i e =
    cond_ok_then (registers_fit opcode f) refusal.BadRegister (instruction_with opcode f next) i
    (cond_ok_then (fields_fit opcode f) refusal.BadField _ i (cond_ok (is_left_out opcode f.src) refusal.LeftOut _ i e))

from_wide : (f : Fields) (next : Option Slot) (i : Instruction) → wide_instruction f next ≡ Ok i → (dst n high : ℕ) × (i ≡ instruction.LoadImmediate dst n) × (next ≡ Some (Tail high))
from_wide f None i e = absurd (let g : ◌≡◌ {A = Result Instruction RefusalNumber} (Err refusal.BadTail) (Ok i) = e in cc)
from_wide f (Some (Ins op dst src off imm)) i e = absurd (let g : ◌≡◌ {A = Result Instruction RefusalNumber} (Err refusal.BadTail) (Ok i) = e in cc)
from_wide f (Some (Tail high)) i e = (f.dst, high * 2 ^ 32 + f.imm, high, (let g : ◌≡◌ {A = Result Instruction RefusalNumber} (Ok (instruction.LoadImmediate f.dst (high * 2 ^ 32 + f.imm))) (Ok i) = e in cc), refl)

-- a slot of the wide opcode stands for a wide immediate, and a tail follows it
pub wide_is : (slot : Slot) (next : Option Slot) (i : Instruction) → is_wide slot ≡ true → instruction_of slot next ≡ Ok i → (dst n high : ℕ) × (i ≡ instruction.LoadImmediate dst n) × (next ≡ Some (Tail high))
unfolding instruction_of read_fields opcode_of immediate_opcode
wide_is (Tail imm) next i w e = absurd (let g : false ≡ true = w in cc)
wide_is (Ins op dst src off imm) next i w e =
    let f : Fields = record { dst = dst; src = src; off = off; imm = imm } in
    let at_wide : instruction_of (Ins 24 dst src off imm) next ≡ Ok i = subst (λ (n : ℕ). instruction_of (Ins n dst src off imm) next ≡ Ok i) (eqb-true op 24 w) e in
    from_wide f next i (fields_pass is.LoadImmediate f next i at_wide)

is_load_immediate : Instruction → Bool
is_load_immediate (instruction.LoadImmediate dst n) = true
is_load_immediate other = false

load_is : (i : Instruction) (dst n : ℕ) → i ≡ instruction.LoadImmediate dst n → is_load_immediate i ≡ true
unfolding is_load_immediate
load_is i dst n e = ap is_load_immediate e

-- an arithmetic opcode never stands for a wide immediate
no_load : (operation : Operation) (width : Width) (source : Source) (f : Fields) → is_load_immediate (arithmetic_instruction operation width source f) ≡ false
unfolding is_load_immediate
no_load operation width source f =
    cond_both (f.off == 0) _ _ (λ (i : Instruction). is_load_immediate i ≡ false) (λ h. refl)
    (λ h. cond_both (f.off == 1) _ _ (λ (i : Instruction). is_load_immediate i ≡ false) (λ k. refl) (λ k. refl))

other_instruction : (i j : Instruction) → ◌≡◌ {A = Result Instruction RefusalNumber} (Ok i) (Ok j) → is_load_immediate i ≡ false → is_load_immediate j ≡ true → ⊥
other_instruction i j e p q = let same : i ≡ j = cc in let both : false ≡ true = sym p ∙ (ap is_load_immediate same ∙ q) in cc

-- the opcode of a wide immediate alone stands for one, with a tail behind it
opcode_tail : (opcode : Opcode) (f : Fields) (next : Option Slot) (i : Instruction) → instruction_with opcode f next ≡ Ok i → is_load_immediate i ≡ true → (high : ℕ) × (next ≡ Some (Tail high))
unfolding is_load_immediate
opcode_tail (is.Arithmetic operation width source) f next i e h = absurd (other_instruction _ i e (no_load operation width source f) h)
opcode_tail (is.Negate width) f next i e h = absurd (other_instruction _ i e refl h)
opcode_tail (is.Convert order) f next i e h = absurd (other_instruction _ i e refl h)
opcode_tail is.LoadImmediate f next i e h = let wide = from_wide f next i e in (wide.2, wide.4)
opcode_tail (is.Load size extension) f next i e h = absurd (other_instruction _ i e refl h)
opcode_tail (is.Store size source) f next i e h = absurd (other_instruction _ i e refl h)
opcode_tail (is.Jump width.Bits32) f next i e h = absurd (other_instruction _ i e refl h)
opcode_tail (is.Jump width.Bits64) f next i e h = absurd (other_instruction _ i e refl h)
opcode_tail (is.Branch comparison width source) f next i e h = absurd (other_instruction _ i e refl h)
opcode_tail is.Call f next i e h = absurd (other_instruction _ i e refl h)
opcode_tail is.Exit f next i e h = absurd (other_instruction _ i e refl h)

by_opcode : (opcode : Result Opcode RefusalNumber) (f : Fields) (next : Option Slot) (i : Instruction) → read_opcode opcode f next ≡ Ok i → is_load_immediate i ≡ true → (high : ℕ) × (next ≡ Some (Tail high))
by_opcode (Ok opcode) f next i e h = opcode_tail opcode f next i (fields_pass opcode f next i e) h
by_opcode (Err refusal) f next i e h = absurd (let g : ◌≡◌ {A = Result Instruction RefusalNumber} (Err refusal) (Ok i) = e in cc)

-- behind a wide immediate stands a tail
pub tail_behind : (slot : Slot) (next : Option Slot) (i : Instruction) (dst n : ℕ) → instruction_of slot next ≡ Ok i → i ≡ instruction.LoadImmediate dst n → (high : ℕ) × (next ≡ Some (Tail high))
unfolding instruction_of
tail_behind (Ins op dst src off imm) next i d n e h = by_opcode (opcode_of op) (record { dst = dst; src = src; off = off; imm = imm }) next i e (load_is i d n h)
tail_behind (Tail imm) next i d n e h = absurd (let g : ◌≡◌ {A = Result Instruction RefusalNumber} (Err refusal.UnknownOpcode) (Ok i) = e in cc)

-- where a tail stands, a wide immediate stands before it
before_tail : (slots : List Slot) → IsProgram slots → (place : ℕ) → is_tail_at slots place ≡ true → FollowsWide slots place
before_tail slots program place h = by_slot_there (slice_get slots place) refl h
  where
    by_slot_there : (o : Option Slot) → slice_get slots place ≡ o → option_map_or is_tail o false ≡ true → FollowsWide slots place
    by_slot_there None same h = absurd (let g : false ≡ true = h in cc)
    by_slot_there (Some (Ins op dst src off imm)) same h = absurd (let g : false ≡ true = h in cc)
    by_slot_there (Some (Tail high)) same h = program.tails place high same

-- ---- flow

no_fault_at : (slots : List Slot) (place count k : ℕ) → flow_fault_from slots place count ≡ None → k < count → flow_fault_at slots (place + k) ≡ None
unfolding flow_fault_from
no_fault_at slots place zero k e h = absurd (omega arith)
no_fault_at slots place (suc count) zero e h =
    subst (λ (n : ℕ). flow_fault_at slots n ≡ None) (omega arith) (map_none _ (flow_fault_at slots place) (or_none _ _ e).0)
no_fault_at slots place (suc count) (suc k) e h =
    subst (λ (n : ℕ). flow_fault_at slots n ≡ None) (omega arith) (no_fault_at slots (suc place) count k (or_none _ _ e).1 (omega arith))

by_instruction : (from to : ℕ) (o : Option Instruction) → Contains (option_map_or (edges_of from) o []) to → (i : Instruction) × (o ≡ Some i) × Contains (edges_of from i) to
by_instruction from to None (k, h, e) = absurd (omega arith)
by_instruction from to (Some i) e = (i, refl, e)

edge_of : (slots : List Slot) (from to : ℕ) → Edge slots from to → (i : Instruction) × (instruction_at slots from ≡ Some i) × Contains (edges_of from i) to
unfolding successors
edge_of slots from to e = by_instruction from to (instruction_at slots from) e

-- what an accepted flow says of an instruction
fault_of : (slots : List Slot) (place : ℕ) (i : Instruction) → instruction_at slots place ≡ Some i → flow_fault_at slots place ≡ None
    → (option_map_or (jump_fault slots place) (distance_of i) None ≡ None) × (option_map_or (next_fault slots) (next_of place i) None ≡ None)
unfolding flow_fault_at
fault_of slots place i at e =
    let here : flow_fault_of slots place i ≡ None = ap (λ (o : Option Instruction). option_map_or (flow_fault_of slots place) o None) (sym at) ∙ e in
    or_none _ _ (cond_then (is_entered slots place) refusal.Unreachable _ here)

next_is : (place to : ℕ) → ◌≡◌ {A = Option ℕ} (Some (place + 1)) (Some to) → to ≡ suc place
next_is place to e = let f : place + 1 ≡ to = cc in omega arith

second_is : (place to : ℕ) → ◌≡◌ {A = Option ℕ} (Some (place + 2)) (Some to) → to ≡ suc (suc place)
second_is place to e = let f : place + 2 ≡ to = cc in omega arith

-- where control goes on after an instruction: two slots on behind a wide immediate, else one
goes_on : (place to : ℕ) (i : Instruction) → next_of place i ≡ Some to
    → ((to ≡ suc place) × ((dst n : ℕ) → i ≡ instruction.LoadImmediate dst n → ⊥)) ⊎ ((to ≡ suc (suc place)) × ((dst : ℕ) × (n : ℕ) × (i ≡ instruction.LoadImmediate dst n)))
goes_on place to (instruction.Arithmetic operation width dst operand) e = inl (next_is place to e, λ d n h. cc)
goes_on place to (instruction.Negate width dst) e = inl (next_is place to e, λ d n h. cc)
goes_on place to (instruction.MoveSigned width size dst src) e = inl (next_is place to e, λ d n h. cc)
goes_on place to (instruction.Convert order size dst) e = inl (next_is place to e, λ d n h. cc)
goes_on place to (instruction.LoadImmediate dst n) e = inr (second_is place to e, (dst, n, refl))
goes_on place to (instruction.Load size extension dst base distance) e = inl (next_is place to e, λ d n h. cc)
goes_on place to (instruction.Store size base distance operand) e = inl (next_is place to e, λ d n h. cc)
goes_on place to (instruction.Jump width distance) e = absurd (let f : ◌≡◌ {A = Option ℕ} None (Some to) = e in cc)
goes_on place to (instruction.Branch comparison width left right distance) e = inl (next_is place to e, λ d n h. cc)
goes_on place to (instruction.Call helper) e = inl (next_is place to e, λ d n h. cc)
goes_on place to instruction.Exit e = absurd (let f : ◌≡◌ {A = Option ℕ} None (Some to) = e in cc)

same_some : {A : Type 0} (o : Option A) (x y : A) → o ≡ Some x → o ≡ Some y → x ≡ y
same_some o x y p q = cc

-- the slot where control goes on is no tail
next_is_no_tail : (slots : List Slot) → IsProgram slots → (place to : ℕ) (i : Instruction) → instruction_at slots place ≡ Some i → next_of place i ≡ Some to → is_tail_at slots to ≡ true → ⊥
next_is_no_tail slots program place to i at goes tail =
    let here = slot_of slots place i at in
    let before = before_tail slots program to tail in
    elim (goes_on place to i goes) [
      | inl (step, narrow) ↦
          let same : place ≡ before.0 = omega (arith, before.2, step) in
          let its : slice_get slots place ≡ Some before.1 = subst (λ (n : ℕ). slice_get slots n ≡ Some before.1) (sym same) before.3 in
          let one : here.0 ≡ before.1 = same_some _ _ _ here.1 its in
          let wide = wide_is here.0 _ i (subst (λ (s : Slot). is_wide s ≡ true) (sym one) before.4) here.2 in
          narrow wide.0 wide.1 wide.3
      | inr (step, (dst, n, is)) ↦
          let same : suc place ≡ before.0 = omega (arith, before.2, step) in
          let its : slice_get slots (suc place) ≡ Some before.1 = subst (λ (n : ℕ). slice_get slots n ≡ Some before.1) (sym same) before.3 in
          let after = tail_behind here.0 (slice_get slots (suc place)) i dst n here.2 is in
          let one : Tail after.0 ≡ before.1 = same_some _ _ _ after.1 its in
          let no : is_wide (Tail after.0) ≡ true = subst (λ (s : Slot). is_wide s ≡ true) (sym one) before.4 in
          (let g : false ≡ true = no in cc)
    ]

jump_leads : (slots : List Slot) (place distance : ℕ) → jump_fault slots place distance ≡ None → (distance < 2 ^ 63) × (target_of place distance < length slots) × (is_tail_at slots (target_of place distance) ≡ false)
jump_leads slots place distance e =
    let back = cond_none (nat_le (2 ^ 63) distance) refusal.BackJump _ e in
    let out = cond_none (nat_le (length slots) (target_of place distance)) refusal.JumpOut _ back.1 in
    let tail = cond_none (is_tail_at slots (target_of place distance)) refusal.IntoTail None out.1 in
    (leb-false _ _ back.0, leb-false _ _ out.0, tail.0)

-- the target of a jump forward in a program of at most 4,096 slots is behind it
target_behind : (place distance count : ℕ) → place < count → count ≤ most_slots → distance < 2 ^ 63 → place < target_of place distance
target_behind place distance count h few back =
    let small : place + 1 + distance < 2 ^ 64 = omega arith in
    let same : target_of place distance ≡ place + 1 + distance = mod-eq_of_lt small in
    omega (arith, same)

false_from_no_tail : (b : Bool) → (b ≡ true → ⊥) → b ≡ false
false_from_no_tail true h = absurd (h refl)
false_from_no_tail false h = refl

next_leads : (slots : List Slot) (to : ℕ) → next_fault slots to ≡ None → to < length slots
next_leads slots to e = leb-false _ _ (cond_none (nat_le (length slots) to) refusal.FallsOff None e).0

-- an edge to the next instruction
next_edge : (slots : List Slot) → IsProgram slots → (from to : ℕ) (i : Instruction) → instruction_at slots from ≡ Some i
    → option_map_or (next_fault slots) (next_of from i) None ≡ None → next_of from i ≡ Some to → (from < to) × IsSome (instruction_at slots to)
next_edge slots program from to i at faultless goes =
    let within = next_leads slots to (ap (λ (o : Option ℕ). option_map_or (next_fault slots) o None) (sym goes) ∙ faultless) in
    let plain = false_from_no_tail (is_tail_at slots to) (next_is_no_tail slots program from to i at goes) in
    (after from to i goes, instruction_there slots program to within plain)
  where
    after : (from to : ℕ) (i : Instruction) → next_of from i ≡ Some to → from < to
    after from to i goes = elim (goes_on from to i goes) [ inl (step, narrow) ↦ omega (arith, step) | inr (step, wide) ↦ omega (arith, step) ]

-- an edge to a jump's target
target_edge : (slots : List Slot) → IsProgram slots → (from to : ℕ) (distance : Option ℕ) → from < length slots
    → option_map_or (jump_fault slots from) distance None ≡ None → option_map (target_of from) distance ≡ Some to → (from < to) × IsSome (instruction_at slots to)
target_edge slots program from to None h faultless leads = absurd (let g : ◌≡◌ {A = Option ℕ} None (Some to) = leads in cc)
target_edge slots program from to (Some distance) h faultless leads =
    let fine = jump_leads slots from distance faultless in
    let is_to : target_of from distance ≡ to = same_to leads in
    let there : (from < target_of from distance) × IsSome (instruction_at slots (target_of from distance)) =
    (target_behind from distance (length slots) h program.few fine.0, instruction_there slots program (target_of from distance) fine.1 fine.2) in
    subst (λ (n : ℕ). (from < n) × IsSome (instruction_at slots n)) is_to there
  where
    same_to : ◌≡◌ {A = Option ℕ} (Some (target_of from distance)) (Some to) → target_of from distance ≡ to
    same_to e = cc

pub edges_forward : (slots : List Slot) → IsProgram slots → flow_fault slots ≡ None → (from to : ℕ) → Edge slots from to → (from < to) × IsSome (instruction_at slots to)
edges_forward slots program accepted from to edge =
    let i = edge_of slots from to edge in
    let here = slot_of slots from i.0 i.1 in
    let within = slice_get_within slots from here.0 here.1 in
    let none : flow_fault_at slots from ≡ None = subst (λ (n : ℕ). flow_fault_at slots n ≡ None) (omega arith) (no_fault_at slots 0 (length slots) from accepted within) in
    let faultless = fault_of slots from i.0 i.1 none in
    elim (in_options (next_of from i.0) (option_map (target_of from) (distance_of i.0)) to i.2) [
      | inl goes ↦ next_edge slots program from to i.0 i.1 faultless.1 goes
      | inr leads ↦ target_edge slots program from to (distance_of i.0) within faultless.0 leads
    ]
