-- What the operations of a domain mean on words (RFC 9669, sections 4.1 to 4.3).
use Rattle.std.specs.Prelude.{ℕ, ◌≡◌, ◌≢◌, ◌<◌, ◌≤◌, bit_and}
use Rattle.bpf_profile.specs.Words.{arithmetic, bits_in, low, sign_extended, converted}
use Rattle.bpf_profile.specs.declared.instruction.ByteOrder.TheVariants as order
use Rattle.bpf_profile.specs.declared.instruction.Operation.{Operation}
use Rattle.bpf_profile.specs.declared.instruction.Operation.TheVariants as operation
use Rattle.bpf_profile.specs.declared.instruction.Size.{Size}
use Rattle.bpf_profile.specs.declared.instruction.Width.TheVariants as width
use Rattle.abs_domain.specs.declared.operations.Binary.{Binary}
use Rattle.abs_domain.specs.declared.operations.Binary.TheVariants as binary
use Rattle.abs_domain.specs.declared.operations.Conversion.{Conversion}
use Rattle.abs_domain.specs.declared.operations.Conversion.TheVariants as conversion
use Rattle.abs_domain.specs.declared.operations.Relation.{Relation}
use Rattle.abs_domain.specs.declared.operations.Relation.TheVariants as relation
use Rattle.abs_domain.specs.declared.operations.Shift.{Shift}
use Rattle.abs_domain.specs.declared.operations.Shift.TheVariants as shift

abbrev pub binary_operation : Binary → Operation
binary_operation binary.Add = operation.Add
binary_operation binary.Subtract = operation.Subtract
binary_operation binary.Multiply = operation.Multiply
binary_operation binary.Divide = operation.Divide
binary_operation binary.SignedDivide = operation.SignedDivide
binary_operation binary.Modulo = operation.Modulo
binary_operation binary.SignedModulo = operation.SignedModulo
binary_operation binary.And = operation.And
binary_operation binary.Or = operation.Or
binary_operation binary.Xor = operation.Xor

abbrev pub shift_operation : Shift → Operation
shift_operation shift.Left = operation.ShiftLeft
shift_operation shift.Right = operation.ShiftRight
shift_operation shift.ArithmeticRight = operation.ArithmeticShiftRight

-- an operation on two words
abbrev pub word_operation : Binary → ℕ → ℕ → ℕ
word_operation operation a b = arithmetic (binary_operation operation) width.Bits64 a b

-- a word, shifted by a count
abbrev pub word_shift : Shift → ℕ → ℕ → ℕ
word_shift shift a count = arithmetic (shift_operation shift) width.Bits64 a count

-- what is made of the low bytes of a word
abbrev pub word_conversion : Conversion → Size → ℕ → ℕ
word_conversion conversion.Low size a = low (bits_in size) a
word_conversion conversion.SignExtended size a = sign_extended (bits_in size) a
word_conversion conversion.Swapped size a = converted order.Swap size a

-- what a comparison tells of two words
abbrev pub Relates : Relation → ℕ → ℕ → Type 0
Relates relation.Equal a b = a ≡ b
Relates relation.NotEqual a b = a ≢ b
Relates relation.Greater a b = b < a
Relates relation.GreaterOrEqual a b = b ≤ a
Relates relation.Disjoint a b = bit_and a b ≡ 0
Relates relation.Overlapping a b = bit_and a b ≢ 0
