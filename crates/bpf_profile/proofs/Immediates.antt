-- The immediates and offsets of a program's instructions are words.
use Rattle.std.proofs.Common.{◌≡◌, ℕ, zero, suc, pos, negsuc, ◌+◌, ◌*◌, ◌^◌, ◌<◌, ◌==◌, Bool, true, false, cond, List, [], ◌∷◌, Option, Some, None, Result, Ok, Err, refl, subst, arith}
use Rattle.std.proofs.lemmas.Nat.{pow_pos, mod_below}
use Rattle.std.specs.List.{AllByRecursion}
use Rattle.std.specs.Prelude.{slice_get, nat_lt}
use Rattle.refusals.specs.declared.RefusalNumber.{RefusalNumber}
use Rattle.refusals.specs.declared.RefusalNumber.TheVariants.{UnknownOpcode, BadField, BadRegister, BadTail, LeftOut}
use Rattle.bpf_profile.specs.declared.fields.Fields.{Fields}
use Rattle.bpf_profile.specs.declared.instruction.Instruction.{Instruction}
use Rattle.bpf_profile.specs.declared.instruction.Instruction.TheVariants as instruction
use Rattle.bpf_profile.specs.declared.instruction.Operand.{Operand}
use Rattle.bpf_profile.specs.declared.instruction.Operand.TheVariants as operand
use Rattle.bpf_profile.specs.declared.instruction.Operation.{Operation}
use Rattle.bpf_profile.specs.declared.instruction.Width.{Width}
use Rattle.bpf_profile.specs.declared.instruction.Width.TheVariants as width
use Rattle.bpf_profile.specs.declared.opcode.Opcode.{Opcode}
use Rattle.bpf_profile.specs.declared.opcode.Opcode.TheVariants as is
use Rattle.bpf_profile.specs.declared.opcode.Source.{Source}
use Rattle.bpf_profile.specs.declared.opcode.Source.TheVariants as source
use Rattle.bpf_profile.specs.declared.slot.Slot.{Slot}
use Rattle.bpf_profile.specs.declared.slot.Slot.TheVariants.{Ins, Tail}
use Rattle.bpf_profile.specs.Meaning.{instruction_at}
use Rattle.bpf_profile.specs.Opcodes.{opcode_of}
use Rattle.bpf_profile.specs.Slots.{instruction_of, read_opcode, read_fields, instruction_with, arithmetic_instruction, signed_variant, wide_instruction, operand_of, immediate_word, offset_word, is_left_out, fields_fit, registers_fit, bits_size}
use Rattle.bpf_profile.specs.Spelling.{IsSlot, IsProgram}
use Rattle.bpf_profile.specs.Words.{IsWord, word_of, low}
use Rattle.bpf_profile.proofs.Edges.{slot_of}

abbrev pub OperandIsWord : Operand → Type 0
OperandIsWord (operand.Register r) = Unit {0}
OperandIsWord (operand.Immediate n) = IsWord n

abbrev pub InWords : Instruction → Type 0
InWords (instruction.Arithmetic operation width dst operand) = OperandIsWord operand
InWords (instruction.LoadImmediate dst n) = IsWord n
InWords (instruction.Load size extension dst base distance) = IsWord distance
InWords (instruction.Store size base distance operand) = IsWord distance × OperandIsWord operand
InWords (instruction.Branch comparison width left right distance) = OperandIsWord right
InWords i = Unit {0}

err_not_ok : {A E : Type 0} (e : E) (a : A) → ◌≡◌ {A = Result A E} (Err e) (Ok a) → ⊥
err_not_ok e a h = cc

same_ok : {A E : Type 0} (a b : A) → ◌≡◌ {A = Result A E} (Ok a) (Ok b) → a ≡ b
same_ok a b h = cc

words_of : (a i : Instruction) → ◌≡◌ {A = Result Instruction RefusalNumber} (Ok a) (Ok i) → InWords a → InWords i
words_of a i e h = subst InWords (same_ok a i e) h

-- ---- fields

word_by : (clear : Bool) (n m : ℕ) → n < 2 ^ 64 → word_of (cond clear (pos n) (negsuc m)) < 2 ^ 64
word_by true n m h = h
word_by false n m h = omega arith

immediate_fits : (f : Fields) → IsWord (immediate_word f)
immediate_fits f = word_by (nat_lt (low 32 f.imm) (2 ^ 31)) (low 32 f.imm) _ (let h = mod_below f.imm (2 ^ 32) (pow_pos 32) in omega (arith, h))

offset_fits : (f : Fields) → IsWord (offset_word f)
offset_fits f = word_by (nat_lt (low 16 f.off) (2 ^ 15)) (low 16 f.off) _ (let h = mod_below f.off (2 ^ 16) (pow_pos 16) in omega (arith, h))

operand_fits : (from : Source) (f : Fields) → OperandIsWord (operand_of from f)
operand_fits source.Immediate f = immediate_fits f
operand_fits source.Register f = tt

arithmetic_fits : (o : Operation) (w : Width) (from : Source) (f : Fields) → InWords (arithmetic_instruction o w from f)
arithmetic_fits o w from f = by_tests (f.off == 0) (f.off == 1)
  where
    by_tests : (plain signed : Bool)
        → InWords (cond plain (instruction.Arithmetic o w f.dst (operand_of from f)) (cond signed (instruction.Arithmetic (signed_variant o) w f.dst (operand_of from f)) (instruction.MoveSigned w (bits_size f.off) f.dst f.src)))
    by_tests true signed = operand_fits from f
    by_tests false true = operand_fits from f
    by_tests false false = tt

-- the tail of a wide immediate fits in its bits
abbrev NextFits : Option Slot → Type 0
NextFits (Some (Tail high)) = high < 2 ^ 32
NextFits other = Unit {0}

wide_fits : (f : Fields) (next : Option Slot) (i : Instruction) → f.imm < 2 ^ 32 → NextFits next → wide_instruction f next ≡ Ok i → InWords i
wide_fits f (Some (Tail high)) i h n e = words_of (instruction.LoadImmediate f.dst (high * 2 ^ 32 + f.imm)) i e (omega (arith, h, n))
wide_fits f (Some (Ins op dst src off imm)) i h n e = absurd (err_not_ok BadTail i e)
wide_fits f None i h n e = absurd (err_not_ok BadTail i e)

-- ---- instructions

with_fits : (opcode : Opcode) (f : Fields) (next : Option Slot) (i : Instruction) → f.imm < 2 ^ 32 → NextFits next → instruction_with opcode f next ≡ Ok i → InWords i
with_fits (is.Arithmetic o w from) f next i h n e = words_of (arithmetic_instruction o w from f) i e (arithmetic_fits o w from f)
with_fits (is.Negate w) f next i h n e = words_of (instruction.Negate w f.dst) i e tt
with_fits (is.Convert order) f next i h n e = words_of (instruction.Convert order (bits_size f.imm) f.dst) i e tt
with_fits is.LoadImmediate f next i h n e = wide_fits f next i h n e
with_fits (is.Load size x) f next i h n e = words_of (instruction.Load size x f.dst f.src (offset_word f)) i e (offset_fits f)
with_fits (is.Store size from) f next i h n e = words_of (instruction.Store size f.dst (offset_word f) (operand_of from f)) i e (offset_fits f, operand_fits from f)
with_fits (is.Jump width.Bits32) f next i h n e = words_of (instruction.Jump width.Bits32 (immediate_word f)) i e tt
with_fits (is.Jump width.Bits64) f next i h n e = words_of (instruction.Jump width.Bits64 (offset_word f)) i e tt
with_fits (is.Branch c w from) f next i h n e = words_of (instruction.Branch c w f.dst (operand_of from f) (offset_word f)) i e (operand_fits from f)
with_fits is.Call f next i h n e = words_of (instruction.Call f.imm) i e tt
with_fits is.Exit f next i h n e = words_of instruction.Exit i e tt

fields_are : (opcode : Opcode) (f : Fields) (next : Option Slot) (i : Instruction) → f.imm < 2 ^ 32 → NextFits next → read_fields opcode f next ≡ Ok i → InWords i
unfolding read_fields
fields_are opcode f next i h n e = by_tests (is_left_out opcode f.src) (fields_fit opcode f) (registers_fit opcode f) e
  where
    by_tests : (left fields registers : Bool) → cond left (Err LeftOut) (cond fields (cond registers (instruction_with opcode f next) (Err BadRegister)) (Err BadField)) ≡ Ok i → InWords i
    by_tests true fields registers e = absurd (err_not_ok LeftOut i e)
    by_tests false true true e = with_fits opcode f next i h n e
    by_tests false true false e = absurd (err_not_ok BadRegister i e)
    by_tests false false registers e = absurd (err_not_ok BadField i e)

opcode_is : (opcode : Result Opcode RefusalNumber) (f : Fields) (next : Option Slot) (i : Instruction) → f.imm < 2 ^ 32 → NextFits next → read_opcode opcode f next ≡ Ok i → InWords i
opcode_is (Ok opcode) f next i h n e = fields_are opcode f next i h n e
opcode_is (Err number) f next i h n e = absurd (err_not_ok number i e)

slot_is : (slot : Slot) (next : Option Slot) (i : Instruction) → IsSlot slot → NextFits next → instruction_of slot next ≡ Ok i → InWords i
unfolding instruction_of
slot_is (Ins op dst src off imm) next i h n e = opcode_is (opcode_of op) (record { dst = dst; src = src; off = off; imm = imm }) next i h.4 n e
slot_is (Tail imm) next i h n e = absurd (err_not_ok UnknownOpcode i e)

each_slot : (slots : List Slot) (place : ℕ) (slot : Slot) → AllByRecursion IsSlot slots → slice_get slots place ≡ Some slot → IsSlot slot
each_slot [] place slot h e = absurd (let f : ◌≡◌ {A = Option Slot} None (Some slot) = e in cc)
each_slot (first ∷ slots) zero slot h e = subst IsSlot (same_some first slot e) h.0
  where
    same_some : (a b : Slot) → ◌≡◌ {A = Option Slot} (Some a) (Some b) → a ≡ b
    same_some a b h = cc
each_slot (first ∷ slots) (suc place) slot h e = each_slot slots place slot h.1 e

next_fits : (slots : List Slot) (place : ℕ) → AllByRecursion IsSlot slots → NextFits (slice_get slots place)
next_fits slots place h = by_option (slice_get slots place) refl
  where
    by_option : (o : Option Slot) → slice_get slots place ≡ o → NextFits o
    by_option None e = tt
    by_option (Some (Ins op dst src off imm)) e = tt
    by_option (Some (Tail high)) e = each_slot slots place (Tail high) h e

pub in_words : (slots : List Slot) → IsProgram slots → (place : ℕ) (i : Instruction) → instruction_at slots place ≡ Some i → InWords i
in_words slots program place i e =
    let here = slot_of slots place i e in
    slot_is here.0 (slice_get slots (suc place)) i (each_slot slots place here.0 program.fields here.1) (next_fits slots (suc place) program.fields) here.2
