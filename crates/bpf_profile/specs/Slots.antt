-- What a slot stands for, or why it stands for nothing (RFC 9669, sections 3.1 and 3.2, and the rules of the profile).
use Rattle.std.specs.Prelude.{ℕ, ◌+◌, ◌*◌, ◌^◌, ◌==◌, nat_lt, ◌&&◌, ◌||◌, Bool, true, false, if◌then◌else◌, Option, Some, Result, Ok, Err}
use Rattle.refusals.specs.declared.RefusalNumber.{RefusalNumber}
use Rattle.refusals.specs.declared.RefusalNumber.TheVariants.{UnknownOpcode, LeftOut, BadField, BadRegister, BadTail}
use Rattle.bpf_profile.specs.declared.instruction.Instruction.{Instruction}
use Rattle.bpf_profile.specs.declared.instruction.Instruction.TheVariants as instruction
use Rattle.bpf_profile.specs.declared.instruction.Operand.{Operand}
use Rattle.bpf_profile.specs.declared.instruction.Operand.TheVariants as operand
use Rattle.bpf_profile.specs.declared.instruction.Operation.{Operation}
use Rattle.bpf_profile.specs.declared.instruction.Operation.TheVariants as operation
use Rattle.bpf_profile.specs.declared.instruction.Size.{Size}
use Rattle.bpf_profile.specs.declared.instruction.Size.TheVariants as size
use Rattle.bpf_profile.specs.declared.instruction.Width.{Width}
use Rattle.bpf_profile.specs.declared.instruction.Width.TheVariants as width
use Rattle.bpf_profile.specs.declared.opcode.Opcode.{Opcode}
use Rattle.bpf_profile.specs.declared.opcode.Opcode.TheVariants as is
use Rattle.bpf_profile.specs.declared.opcode.Source.{Source}
use Rattle.bpf_profile.specs.declared.opcode.Source.TheVariants as source
use Rattle.bpf_profile.specs.declared.fields.Fields.{Fields}
use Rattle.bpf_profile.specs.declared.slot.Slot.{Slot}
use Rattle.bpf_profile.specs.declared.slot.Slot.TheVariants.{Ins, Tail}
use Rattle.bpf_profile.specs.Opcodes.{opcode_of}
use Rattle.bpf_profile.specs.Words.{sign_extended}

-- calls of the program's own functions, and immediates that name maps and the like (sections 4.3.2 and 5.4)
abbrev pub is_left_out : Opcode → ℕ → Bool
is_left_out is.Call src = (src == 1) || (src == 2)
is_left_out is.LoadImmediate src = nat_lt 0 src && nat_lt src 7
is_left_out opcode src = false

-- an offset of 1 makes division and modulo signed (section 4.1)
abbrev pub is_signed_variant : Operation → ℕ → Bool
is_signed_variant operation.Divide off = off == 1
is_signed_variant operation.Modulo off = off == 1
is_signed_variant operation off = false

-- an offset of 8, 16 or 32 makes a move from a register sign-extending (section 4.1)
abbrev pub is_extending_variant : Operation → Width → ℕ → Bool
is_extending_variant operation.Move width.Bits32 off = (off == 8) || (off == 16)
is_extending_variant operation.Move width.Bits64 off = (off == 8) || ((off == 16) || (off == 32))
is_extending_variant operation width off = false

-- the fields that an opcode doesn't use are 0, and the others have listed values
abbrev pub fields_fit : Opcode → Fields → Bool
fields_fit (is.Arithmetic operation width source.Immediate) f = (f.src == 0) && ((f.off == 0) || is_signed_variant operation f.off)
fields_fit (is.Arithmetic operation width source.Register) f = (f.imm == 0) && ((f.off == 0) || (is_signed_variant operation f.off || is_extending_variant operation width f.off))
fields_fit (is.Negate width) f = (f.src == 0) && ((f.off == 0) && (f.imm == 0))
fields_fit (is.Convert order) f = (f.src == 0) && ((f.off == 0) && ((f.imm == 16) || ((f.imm == 32) || (f.imm == 64))))
fields_fit is.LoadImmediate f = (f.src == 0) && (f.off == 0)
fields_fit (is.Load size extension) f = f.imm == 0
fields_fit (is.Store size source.Immediate) f = f.src == 0
fields_fit (is.Store size source.Register) f = f.imm == 0
fields_fit (is.Jump width.Bits32) f = (f.dst == 0) && ((f.src == 0) && (f.off == 0))
fields_fit (is.Jump width.Bits64) f = (f.dst == 0) && ((f.src == 0) && (f.imm == 0))
fields_fit (is.Branch comparison width source.Immediate) f = f.src == 0
fields_fit (is.Branch comparison width source.Register) f = f.imm == 0
fields_fit is.Call f = (f.dst == 0) && ((f.src == 0) && (f.off == 0))
fields_fit is.Exit f = (f.dst == 0) && ((f.src == 0) && ((f.off == 0) && (f.imm == 0)))

-- whether the instruction writes the register in its field dst
abbrev pub writes_dst : Opcode → Bool
writes_dst (is.Arithmetic operation width source) = true
writes_dst (is.Negate width) = true
writes_dst (is.Convert order) = true
writes_dst is.LoadImmediate = true
writes_dst (is.Load size extension) = true
writes_dst opcode = false

-- registers end at R10, which is read only (section 2)
abbrev pub registers_fit : Opcode → Fields → Bool
registers_fit opcode f = nat_lt f.dst (if writes_dst opcode then 10 else 11) && nat_lt f.src 11

-- the immediate field as a word
abbrev pub immediate_word : Fields → ℕ
immediate_word f = sign_extended 32 f.imm

abbrev pub offset_word : Fields → ℕ
offset_word f = sign_extended 16 f.off

abbrev pub operand_of : Source → Fields → Operand
operand_of source.Immediate f = operand.Immediate (immediate_word f)
operand_of source.Register f = operand.Register f.src

abbrev pub signed_variant : Operation → Operation
signed_variant operation.Divide = operation.SignedDivide
signed_variant operation.Modulo = operation.SignedModulo
signed_variant operation = operation

-- the size of so many bits
abbrev pub bits_size : ℕ → Size
bits_size count = if count == 8 then size.Byte else (if count == 16 then size.HalfWord else (if count == 32 then size.Word else size.DoubleWord))

abbrev pub arithmetic_instruction : Operation → Width → Source → Fields → Instruction
arithmetic_instruction operation width source f =
    if f.off == 0 then instruction.Arithmetic operation width f.dst (operand_of source f)
    else (if f.off == 1 then instruction.Arithmetic (signed_variant operation) width f.dst (operand_of source f)
    else instruction.MoveSigned width (bits_size f.off) f.dst f.src)

-- a wide immediate: the low half here, the high half in the tail (section 3.2)
abbrev pub wide_instruction : Fields → Option Slot → Result Instruction RefusalNumber
wide_instruction f (Some (Tail high)) = Ok (instruction.LoadImmediate f.dst (high * 2 ^ 32 + f.imm))
wide_instruction f other = Err BadTail

-- the instruction of an opcode whose fields fit, with the slot after it
abbrev pub instruction_with : Opcode → Fields → Option Slot → Result Instruction RefusalNumber
instruction_with (is.Arithmetic operation width source) f next = Ok (arithmetic_instruction operation width source f)
instruction_with (is.Negate width) f next = Ok (instruction.Negate width f.dst)
instruction_with (is.Convert order) f next = Ok (instruction.Convert order (bits_size f.imm) f.dst)
instruction_with is.LoadImmediate f next = wide_instruction f next
instruction_with (is.Load size extension) f next = Ok (instruction.Load size extension f.dst f.src (offset_word f))
instruction_with (is.Store size source) f next = Ok (instruction.Store size f.dst (offset_word f) (operand_of source f))
instruction_with (is.Jump width.Bits32) f next = Ok (instruction.Jump width.Bits32 (immediate_word f))
instruction_with (is.Jump width.Bits64) f next = Ok (instruction.Jump width.Bits64 (offset_word f))
instruction_with (is.Branch comparison width source) f next = Ok (instruction.Branch comparison width f.dst (operand_of source f) (offset_word f))
instruction_with is.Call f next = Ok (instruction.Call f.imm)
instruction_with is.Exit f next = Ok instruction.Exit

-- the tests of a known opcode, in the order in which they are tried
unfoldable pub read_fields : Opcode → Fields → Option Slot → Result Instruction RefusalNumber
read_fields opcode f next =
    if is_left_out opcode f.src then Err LeftOut
    else (if fields_fit opcode f then (if registers_fit opcode f then instruction_with opcode f next else Err BadRegister)
    else Err BadField)

abbrev pub read_opcode : Result Opcode RefusalNumber → Fields → Option Slot → Result Instruction RefusalNumber
read_opcode (Ok opcode) f next = read_fields opcode f next
read_opcode (Err refusal) f next = Err refusal

-- the instruction that a slot stands for with the slot after it, or the first of its faults; a tail begins none, since its opcode is 0
unfoldable pub instruction_of : Slot → Option Slot → Result Instruction RefusalNumber
instruction_of (Ins op dst src off imm) next = read_opcode (opcode_of op) (record { dst = dst; src = src; off = off; imm = imm }) next
instruction_of (Tail imm) next = Err UnknownOpcode
