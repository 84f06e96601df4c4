-- The number of each opcode (RFC 9669, sections 3.1, 3.3, 4.1, 4.3 and 5).
use Rattle.std.specs.Prelude.{ℕ, ◌+◌, ◌*◌, Bool, true, false}
use Rattle.bpf_profile.specs.declared.instruction.ByteOrder.{ByteOrder}
use Rattle.bpf_profile.specs.declared.instruction.ByteOrder.TheVariants as order
use Rattle.bpf_profile.specs.declared.instruction.Comparison.{Comparison}
use Rattle.bpf_profile.specs.declared.instruction.Comparison.TheVariants as comparison
use Rattle.bpf_profile.specs.declared.instruction.Extension.{Extension}
use Rattle.bpf_profile.specs.declared.instruction.Extension.TheVariants as extension
use Rattle.bpf_profile.specs.declared.instruction.Operation.{Operation}
use Rattle.bpf_profile.specs.declared.instruction.Operation.TheVariants as operation
use Rattle.bpf_profile.specs.declared.instruction.Size.{Size}
use Rattle.bpf_profile.specs.declared.instruction.Size.TheVariants as size
use Rattle.bpf_profile.specs.declared.instruction.Width.{Width}
use Rattle.bpf_profile.specs.declared.instruction.Width.TheVariants as width
use Rattle.bpf_profile.specs.declared.opcode.Opcode.{Opcode}
use Rattle.bpf_profile.specs.declared.opcode.Opcode.TheVariants as is
use Rattle.bpf_profile.specs.declared.opcode.Source.{Source}
use Rattle.bpf_profile.specs.declared.opcode.Source.TheVariants as source

-- the high four bits of an operation (section 4.1); a signed one has the code of the unsigned one
abbrev pub operation_code : Operation → ℕ
operation_code operation.Add = 0
operation_code operation.Subtract = 1
operation_code operation.Multiply = 2
operation_code operation.Divide = 3
operation_code operation.SignedDivide = 3
operation_code operation.Or = 4
operation_code operation.And = 5
operation_code operation.ShiftLeft = 6
operation_code operation.ShiftRight = 7
operation_code operation.Modulo = 9
operation_code operation.SignedModulo = 9
operation_code operation.Xor = 10
operation_code operation.Move = 11
operation_code operation.ArithmeticShiftRight = 12

-- the high four bits of a condition (section 4.3)
abbrev pub comparison_code : Comparison → ℕ
comparison_code comparison.Equal = 1
comparison_code comparison.Greater = 2
comparison_code comparison.GreaterOrEqual = 3
comparison_code comparison.BitsSet = 4
comparison_code comparison.NotEqual = 5
comparison_code comparison.SignedGreater = 6
comparison_code comparison.SignedGreaterOrEqual = 7
comparison_code comparison.Less = 10
comparison_code comparison.LessOrEqual = 11
comparison_code comparison.SignedLess = 12
comparison_code comparison.SignedLessOrEqual = 13

-- bits 3 and 4 of a memory access (section 5)
abbrev pub size_code : Size → ℕ
size_code size.Word = 0
size_code size.HalfWord = 1
size_code size.Byte = 2
size_code size.DoubleWord = 3

-- the high three bits of a load (sections 5.1 and 5.2)
abbrev pub mode_code : Extension → ℕ
mode_code extension.Zero = 3
mode_code extension.Sign = 4

-- bit 3, which says where the second operand is (section 3.3)
abbrev pub source_bit : Source → ℕ
source_bit source.Immediate = 0
source_bit source.Register = 1

-- the low three bits of the arithmetic classes and of the jump classes
abbrev pub arithmetic_class : Width → ℕ
arithmetic_class width.Bits32 = 4
arithmetic_class width.Bits64 = 7

abbrev pub jump_class : Width → ℕ
jump_class width.Bits32 = 6
jump_class width.Bits64 = 5

-- an opcode of an arithmetic or jump class: code, source and class (section 3.3)
abbrev pub coded : ℕ → ℕ → ℕ → ℕ
coded code bit class = 16 * code + 8 * bit + class

-- an opcode of a load or store class: mode, size and class (section 5)
abbrev pub accessed : ℕ → ℕ → ℕ → ℕ
accessed mode size class = 32 * mode + 8 * size + class

-- the byte order conversions: class ALU with the source bit for the order, class ALU64 for the swap (section 4.2)
abbrev pub convert_number : ByteOrder → ℕ
convert_number order.Little = coded 13 0 4
convert_number order.Big = coded 13 1 4
convert_number order.Swap = coded 13 0 7

abbrev pub store_class : Source → ℕ
store_class source.Immediate = 2
store_class source.Register = 3

abbrev pub opcode_number : Opcode → ℕ
opcode_number (is.Arithmetic operation width source) = coded (operation_code operation) (source_bit source) (arithmetic_class width)
opcode_number (is.Negate width) = coded 8 0 (arithmetic_class width)
opcode_number (is.Convert order) = convert_number order
opcode_number is.LoadImmediate = accessed 0 3 0
opcode_number (is.Load size extension) = accessed (mode_code extension) (size_code size) 1
opcode_number (is.Store size source) = accessed 3 (size_code size) (store_class source)
opcode_number (is.Jump width) = coded 0 0 (jump_class width)
opcode_number (is.Branch comparison width source) = coded (comparison_code comparison) (source_bit source) (jump_class width)
opcode_number is.Call = coded 8 0 5
opcode_number is.Exit = coded 9 0 5

-- the opcodes that a number names: division and modulo have one for both readings, and 8 bytes aren't sign-extended
abbrev pub is_listed : Opcode → Bool
is_listed (is.Arithmetic operation.SignedDivide width source) = false
is_listed (is.Arithmetic operation.SignedModulo width source) = false
is_listed (is.Load size.DoubleWord extension.Sign) = false
is_listed opcode = true
