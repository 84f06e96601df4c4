-- What the arithmetic of both widths makes of values of a domain.
use Rattle.std.specs.Prelude.{ℕ, ◌%◌, ◌==◌, if◌then◌else◌}
use Rattle.bpf_profile.specs.declared.instruction.ByteOrder.{ByteOrder}
use Rattle.bpf_profile.specs.declared.instruction.ByteOrder.TheVariants as order
use Rattle.bpf_profile.specs.declared.instruction.Operation.{Operation}
use Rattle.bpf_profile.specs.declared.instruction.Operation.TheVariants as operation
use Rattle.bpf_profile.specs.declared.instruction.Size.{Size}
use Rattle.bpf_profile.specs.declared.instruction.Size.TheVariants as size
use Rattle.bpf_profile.specs.declared.instruction.Width.{Width}
use Rattle.bpf_profile.specs.declared.instruction.Width.TheVariants as width
use Rattle.abs_domain.specs.declared.operations.Binary.{Binary}
use Rattle.abs_domain.specs.declared.operations.Binary.TheVariants as binary
use Rattle.abs_domain.specs.declared.operations.Conversion.TheVariants as conversion
use Rattle.abs_domain.specs.declared.operations.Shift.{Shift}
use Rattle.abs_domain.specs.declared.operations.Shift.TheVariants as shift
use Rattle.abs_domain.specs.declared.domain.Domain.{Ghosts}

-- the low half, zero-extended, and sign-extended
abbrev pub low_half : {X : Type 0} → Ghosts X → X → X
low_half domain a = domain.converted conversion.Low size.Word a

abbrev pub signed_half : {X : Type 0} → Ghosts X → X → X
signed_half domain a = domain.converted conversion.SignExtended size.Word a

-- an operation on 64 bits, or on the low halves, of which the low half is the result (RFC 9669, section 4.1)
abbrev pub binary_in : {X : Type 0} → Ghosts X → Width → Binary → X → X → X
binary_in domain width.Bits64 operation a b = domain.computed operation a b
binary_in domain width.Bits32 operation a b = low_half domain (domain.computed operation (low_half domain a) (low_half domain b))

-- the same of signed readings
abbrev pub signed_binary_in : {X : Type 0} → Ghosts X → Width → Binary → X → X → X
signed_binary_in domain width.Bits64 operation a b = domain.computed operation a b
signed_binary_in domain width.Bits32 operation a b = low_half domain (domain.computed operation (signed_half domain a) (signed_half domain b))

-- a shift by a count that is known, masked to the width; any other shift tells nothing
abbrev pub shifted_by : {X : Type 0} → Ghosts X → Shift → ℕ → X → X → X
shifted_by domain shift bits a b =
    if (domain.bounds_of b).low == (domain.bounds_of b).high then domain.shifted shift a ((domain.bounds_of b).low % bits) else domain.of_any

abbrev pub shift_in : {X : Type 0} → Ghosts X → Width → Shift → X → X → X
shift_in domain width.Bits64 shift a b = shifted_by domain shift 64 a b
shift_in domain width.Bits32 shift.Left a b = low_half domain (shifted_by domain shift.Left 32 (low_half domain a) (low_half domain b))
shift_in domain width.Bits32 shift.Right a b = low_half domain (shifted_by domain shift.Right 32 (low_half domain a) (low_half domain b))
shift_in domain width.Bits32 shift.ArithmeticRight a b = low_half domain (shifted_by domain shift.ArithmeticRight 32 (signed_half domain a) (low_half domain b))

abbrev pub move_in : {X : Type 0} → Ghosts X → Width → X → X
move_in domain width.Bits64 b = b
move_in domain width.Bits32 b = low_half domain (low_half domain b)

abbrev pub arithmetic_in : {X : Type 0} → Ghosts X → Operation → Width → X → X → X
arithmetic_in domain operation.Add width a b = binary_in domain width binary.Add a b
arithmetic_in domain operation.Subtract width a b = binary_in domain width binary.Subtract a b
arithmetic_in domain operation.Multiply width a b = binary_in domain width binary.Multiply a b
arithmetic_in domain operation.Divide width a b = binary_in domain width binary.Divide a b
arithmetic_in domain operation.SignedDivide width a b = signed_binary_in domain width binary.SignedDivide a b
arithmetic_in domain operation.Or width a b = binary_in domain width binary.Or a b
arithmetic_in domain operation.And width a b = binary_in domain width binary.And a b
arithmetic_in domain operation.ShiftLeft width a b = shift_in domain width shift.Left a b
arithmetic_in domain operation.ShiftRight width a b = shift_in domain width shift.Right a b
arithmetic_in domain operation.Modulo width a b = binary_in domain width binary.Modulo a b
arithmetic_in domain operation.SignedModulo width a b = signed_binary_in domain width binary.SignedModulo a b
arithmetic_in domain operation.Xor width a b = binary_in domain width binary.Xor a b
arithmetic_in domain operation.Move width a b = move_in domain width b
arithmetic_in domain operation.ArithmeticShiftRight width a b = shift_in domain width shift.ArithmeticRight a b

-- 0 less the value
abbrev pub negation_in : {X : Type 0} → Ghosts X → Width → X → X
negation_in domain width a = binary_in domain width binary.Subtract (domain.of_word 0) a

-- a move with sign extension of the low bytes to the width
abbrev pub signed_move_in : {X : Type 0} → Ghosts X → Width → Size → X → X
signed_move_in domain width.Bits64 size a = domain.converted conversion.SignExtended size a
signed_move_in domain width.Bits32 size a = low_half domain (domain.converted conversion.SignExtended size (low_half domain a))

-- a conversion of the byte order (section 4.2)
abbrev pub byte_order_in : {X : Type 0} → Ghosts X → ByteOrder → Size → X → X
byte_order_in domain order.Little size a = domain.converted conversion.Low size a
byte_order_in domain order.Big size a = domain.converted conversion.Swapped size a
byte_order_in domain order.Swap size a = domain.converted conversion.Swapped size a
