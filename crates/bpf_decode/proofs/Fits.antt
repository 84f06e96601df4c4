-- The slots of an instruction of the profile fit in their bits.
use Rattle.std.proofs.Common.{◌^◌, ◌<◌, arith}
use Rattle.std.specs.Prelude.{IfSome}
use Rattle.bpf_profile.specs.declared.instruction.ByteOrder.{ByteOrder}
use Rattle.bpf_profile.specs.declared.instruction.ByteOrder.TheVariants as order
use Rattle.bpf_profile.specs.declared.instruction.Comparison.{Comparison}
use Rattle.bpf_profile.specs.declared.instruction.Comparison.TheVariants as comparison
use Rattle.bpf_profile.specs.declared.instruction.Extension.{Extension}
use Rattle.bpf_profile.specs.declared.instruction.Extension.TheVariants as extension
use Rattle.bpf_profile.specs.declared.instruction.Instruction.{Instruction}
use Rattle.bpf_profile.specs.declared.instruction.Instruction.TheVariants as instruction
use Rattle.bpf_profile.specs.declared.instruction.Operand.{Operand}
use Rattle.bpf_profile.specs.declared.instruction.Operand.TheVariants as operand
use Rattle.bpf_profile.specs.declared.instruction.Operation.{Operation}
use Rattle.bpf_profile.specs.declared.instruction.Operation.TheVariants as operation
use Rattle.bpf_profile.specs.declared.instruction.Size.{Size}
use Rattle.bpf_profile.specs.declared.instruction.Size.TheVariants as size
use Rattle.bpf_profile.specs.declared.instruction.Width.{Width}
use Rattle.bpf_profile.specs.declared.instruction.Width.TheVariants as width
use Rattle.bpf_profile.specs.declared.opcode.Opcode.{Opcode}
use Rattle.bpf_profile.specs.declared.opcode.Opcode.TheVariants as is
use Rattle.bpf_profile.specs.declared.opcode.Source.{Source}
use Rattle.bpf_profile.specs.declared.opcode.Source.TheVariants as source
use Rattle.bpf_profile.specs.Spelling.{IsSlot}
use Rattle.bpf_profile.specs.Words.{bits_in}
use Rattle.bpf_decode.specs.OpcodeNumbers.{opcode_number, operation_code, comparison_code, size_code, mode_code, source_bit, arithmetic_class, jump_class, store_class, convert_number}
use Rattle.bpf_decode.specs.Encoding.{first_slot, second_slot, source_of, source_field, operand_field, variant_field, unsigned_operation, IsInstruction, IsOperand}

operation_small : (o : Operation) → operation_code o < 16
operation_small operation.Add = omega arith
operation_small o = omega arith

comparison_small : (c : Comparison) → comparison_code c < 16
comparison_small comparison.Equal = omega arith
comparison_small c = omega arith

size_small : (s : Size) → size_code s < 4
size_small size.Byte = omega arith
size_small s = omega arith

mode_small : (e : Extension) → mode_code e < 8
mode_small extension.Zero = omega arith
mode_small extension.Sign = omega arith

bit_small : (s : Source) → source_bit s < 2
bit_small source.Immediate = omega arith
bit_small source.Register = omega arith

arithmetic_small : (w : Width) → arithmetic_class w < 8
arithmetic_small width.Bits32 = omega arith
arithmetic_small width.Bits64 = omega arith

jump_small : (w : Width) → jump_class w < 8
jump_small width.Bits32 = omega arith
jump_small width.Bits64 = omega arith

store_small : (s : Source) → store_class s < 8
store_small source.Immediate = omega arith
store_small source.Register = omega arith

convert_small : (o : ByteOrder) → convert_number o < 256
convert_small order.Little = omega arith
convert_small order.Big = omega arith
convert_small order.Swap = omega arith

pub opcode_small : (opcode : Opcode) → opcode_number opcode < 2 ^ 8
opcode_small (is.Arithmetic o w s) = omega (arith, operation_small o, bit_small s, arithmetic_small w)
opcode_small (is.Negate w) = omega (arith, arithmetic_small w)
opcode_small (is.Convert order) = omega (arith, convert_small order)
opcode_small is.LoadImmediate = omega arith
opcode_small (is.Load s e) = omega (arith, mode_small e, size_small s)
opcode_small (is.Store s at) = omega (arith, size_small s, store_small at)
opcode_small (is.Jump w) = omega (arith, jump_small w)
opcode_small (is.Branch c w s) = omega (arith, comparison_small c, bit_small s, jump_small w)
opcode_small is.Call = omega arith
opcode_small is.Exit = omega arith

source_small : (right : Operand) → IsOperand right → source_field right < 2 ^ 4
source_small (operand.Register r) h = omega arith
source_small (operand.Immediate w) h = omega arith

operand_small : (right : Operand) → operand_field right < 2 ^ 32
operand_small (operand.Register r) = omega arith
operand_small (operand.Immediate w) = omega arith

variant_small : (o : Operation) → variant_field o < 2 ^ 16
variant_small operation.SignedDivide = omega arith
variant_small operation.SignedModulo = omega arith
variant_small o = omega arith

bits_small : (s : Size) → bits_in s < 2 ^ 16
bits_small size.Byte = omega arith
bits_small s = omega arith

pub first_fits : (i : Instruction) → IsInstruction i → IsSlot (first_slot i)
first_fits (instruction.Arithmetic o w d right) (dw, ok) = (opcode_small (is.Arithmetic (unsigned_operation o) w (source_of right)), omega arith, source_small right ok, variant_small o, operand_small right)
first_fits (instruction.Negate w d) dw = (opcode_small (is.Negate w), omega arith, omega arith, omega arith, omega arith)
first_fits (instruction.MoveSigned w s d from) (e, dw, sr) = (opcode_small (is.Arithmetic operation.Move w source.Register), omega arith, omega arith, bits_small s, omega arith)
first_fits (instruction.Convert order s d) (c, dw) = (opcode_small (is.Convert order), omega arith, omega arith, omega arith, omega (arith, bits_small s))
first_fits (instruction.LoadImmediate d value) (dw, v) = (opcode_small is.LoadImmediate, omega arith, omega arith, omega arith, omega arith)
first_fits (instruction.Load s e d base offset) (l, dw, br, o) = (opcode_small (is.Load s e), omega arith, omega arith, omega arith, omega arith)
first_fits (instruction.Store s base offset right) (br, o, ok) = (opcode_small (is.Store s (source_of right)), omega arith, source_small right ok, omega arith, operand_small right)
first_fits (instruction.Jump width.Bits32 distance) h = (opcode_small (is.Jump width.Bits32), omega arith, omega arith, omega arith, omega arith)
first_fits (instruction.Jump width.Bits64 distance) h = (opcode_small (is.Jump width.Bits64), omega arith, omega arith, omega arith, omega arith)
first_fits (instruction.Branch c w left right distance) (lr, ok, o) = (opcode_small (is.Branch c w (source_of right)), omega arith, source_small right ok, omega arith, operand_small right)
first_fits (instruction.Call helper) h = (opcode_small is.Call, omega arith, omega arith, omega arith, h)
first_fits instruction.Exit h = (opcode_small is.Exit, omega arith, omega arith, omega arith, omega arith)

pub second_fits : (i : Instruction) → IsInstruction i → IfSome (second_slot i) IsSlot
second_fits (instruction.LoadImmediate d value) (dw, v) = omega arith
second_fits (instruction.Arithmetic o w d right) h = tt
second_fits i h = tt
