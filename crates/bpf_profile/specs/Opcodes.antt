-- What each opcode names (RFC 9669, sections 3.1 and 3.3).
use Rattle.std.specs.Prelude.{ℕ, ◌/◌, ◌%◌, ◌==◌, nat_lt, ◌&&◌, ◌||◌, if◌then◌else◌, Option, Some, None, Result, Ok, Err, ok_or, option_map}
use Rattle.refusals.specs.declared.RefusalNumber.{RefusalNumber}
use Rattle.refusals.specs.declared.RefusalNumber.TheVariants.{UnknownOpcode, LeftOut}
use Rattle.bpf_profile.specs.declared.instruction.ByteOrder.TheVariants as order
use Rattle.bpf_profile.specs.declared.instruction.Comparison.{Comparison}
use Rattle.bpf_profile.specs.declared.instruction.Comparison.TheVariants as comparison
use Rattle.bpf_profile.specs.declared.instruction.Extension.TheVariants as extension
use Rattle.bpf_profile.specs.declared.instruction.Operation.{Operation}
use Rattle.bpf_profile.specs.declared.instruction.Operation.TheVariants as operation
use Rattle.bpf_profile.specs.declared.instruction.Size.{Size}
use Rattle.bpf_profile.specs.declared.instruction.Size.TheVariants as size
use Rattle.bpf_profile.specs.declared.instruction.Width.{Width}
use Rattle.bpf_profile.specs.declared.instruction.Width.TheVariants as width
use Rattle.bpf_profile.specs.declared.opcode.Opcode.{Opcode}
use Rattle.bpf_profile.specs.declared.opcode.Opcode.TheVariants as is
use Rattle.bpf_profile.specs.declared.opcode.Source.{Source}
use Rattle.bpf_profile.specs.declared.opcode.Source.TheVariants as source

-- the operations of two operands, by the high four bits (section 4.1); 8 and 13 are NEG and END
unfoldable pub operation_of : ℕ → Option Operation
operation_of code =
    if code == 0 then Some operation.Add
    else (if code == 1 then Some operation.Subtract
    else (if code == 2 then Some operation.Multiply
    else (if code == 3 then Some operation.Divide
    else (if code == 4 then Some operation.Or
    else (if code == 5 then Some operation.And
    else (if code == 6 then Some operation.ShiftLeft
    else (if code == 7 then Some operation.ShiftRight
    else (if code == 9 then Some operation.Modulo
    else (if code == 10 then Some operation.Xor
    else (if code == 11 then Some operation.Move
    else (if code == 12 then Some operation.ArithmeticShiftRight
    else None)))))))))))

-- the conditions, by the high four bits (section 4.3); 0, 8 and 9 are JA, CALL and EXIT
unfoldable pub comparison_of : ℕ → Option Comparison
comparison_of code =
    if code == 1 then Some comparison.Equal
    else (if code == 2 then Some comparison.Greater
    else (if code == 3 then Some comparison.GreaterOrEqual
    else (if code == 4 then Some comparison.BitsSet
    else (if code == 5 then Some comparison.NotEqual
    else (if code == 6 then Some comparison.SignedGreater
    else (if code == 7 then Some comparison.SignedGreaterOrEqual
    else (if code == 10 then Some comparison.Less
    else (if code == 11 then Some comparison.LessOrEqual
    else (if code == 12 then Some comparison.SignedLess
    else (if code == 13 then Some comparison.SignedLessOrEqual
    else None))))))))))

-- the sizes, by bits 3 and 4 (section 5)
unfoldable pub size_of : ℕ → Size
size_of code =
    if code == 0 then size.Word
    else (if code == 1 then size.HalfWord
    else (if code == 2 then size.Byte
    else size.DoubleWord))

-- where the second operand is, by bit 3 (section 3.3)
abbrev pub source_of : ℕ → Source
source_of bit = if bit == 0 then source.Immediate else source.Register

-- an opcode that has no form with a source register
abbrev pub without_register : Opcode → ℕ → Result Opcode RefusalNumber
without_register opcode bit = if bit == 0 then Ok opcode else Err UnknownOpcode

-- the byte order conversions (section 4.2): class ALU by the source bit, class ALU64 the swap
unfoldable pub convert_opcode : Width → ℕ → Result Opcode RefusalNumber
convert_opcode width.Bits32 bit = Ok (is.Convert (if bit == 0 then order.Little else order.Big))
convert_opcode width.Bits64 bit = without_register (is.Convert order.Swap) bit

-- classes ALU and ALU64 (section 4.1)
unfoldable pub arithmetic_opcode : Width → ℕ → ℕ → Result Opcode RefusalNumber
arithmetic_opcode width code bit =
    if code == 8 then without_register (is.Negate width) bit
    else (if code == 13 then convert_opcode width bit
    else ok_or (option_map (λ operation. is.Arithmetic operation width (source_of bit)) (operation_of code)) UnknownOpcode)

-- what class JMP has and class JMP32 has not
abbrev pub only_wide : Width → Opcode → ℕ → Result Opcode RefusalNumber
only_wide width.Bits32 opcode bit = Err UnknownOpcode
only_wide width.Bits64 opcode bit = without_register opcode bit

-- classes JMP and JMP32 (section 4.3)
unfoldable pub jump_opcode : Width → ℕ → ℕ → Result Opcode RefusalNumber
jump_opcode width code bit =
    if code == 0 then without_register (is.Jump width) bit
    else (if code == 8 then only_wide width is.Call bit
    else (if code == 9 then only_wide width is.Exit bit
    else ok_or (option_map (λ comparison. is.Branch comparison width (source_of bit)) (comparison_of code)) UnknownOpcode))

-- class LD: the wide immediate in mode IMM; the packet loads, in modes ABS and IND, are left out (sections 5.4 and 5.5)
unfoldable pub immediate_opcode : ℕ → ℕ → Result Opcode RefusalNumber
immediate_opcode mode code =
    if (mode == 0) && (code == 3) then Ok is.LoadImmediate
    else (if ((mode == 1) || (mode == 2)) && nat_lt code 3 then Err LeftOut
    else Err UnknownOpcode)

-- class LDX: modes MEM and MEMSX (sections 5.1 and 5.2)
unfoldable pub load_opcode : ℕ → ℕ → Result Opcode RefusalNumber
load_opcode mode code =
    if mode == 3 then Ok (is.Load (size_of code) extension.Zero)
    else (if (mode == 4) && nat_lt code 3 then Ok (is.Load (size_of code) extension.Sign)
    else Err UnknownOpcode)

-- class ST: mode MEM (section 5.1)
unfoldable pub store_opcode : ℕ → ℕ → Result Opcode RefusalNumber
store_opcode mode code = if mode == 3 then Ok (is.Store (size_of code) source.Immediate) else Err UnknownOpcode

-- class STX: mode MEM; the atomic operations, of 4 and 8 bytes, are left out (sections 5.1 and 5.3)
unfoldable pub store_register_opcode : ℕ → ℕ → Result Opcode RefusalNumber
store_register_opcode mode code =
    if mode == 3 then Ok (is.Store (size_of code) source.Register)
    else (if (mode == 6) && ((code == 0) || (code == 3)) then Err LeftOut
    else Err UnknownOpcode)

-- the class is in the low three bits, and the other five say which of its instructions
unfoldable pub opcode_of : ℕ → Result Opcode RefusalNumber
opcode_of opcode =
    if opcode % 8 == 0 then immediate_opcode (opcode / 32) (opcode / 8 % 4)
    else (if opcode % 8 == 1 then load_opcode (opcode / 32) (opcode / 8 % 4)
    else (if opcode % 8 == 2 then store_opcode (opcode / 32) (opcode / 8 % 4)
    else (if opcode % 8 == 3 then store_register_opcode (opcode / 32) (opcode / 8 % 4)
    else (if opcode % 8 == 4 then arithmetic_opcode width.Bits32 (opcode / 16) (opcode / 8 % 2)
    else (if opcode % 8 == 5 then jump_opcode width.Bits64 (opcode / 16) (opcode / 8 % 2)
    else (if opcode % 8 == 6 then jump_opcode width.Bits32 (opcode / 16) (opcode / 8 % 2)
    else arithmetic_opcode width.Bits64 (opcode / 16) (opcode / 8 % 2)))))))
