-- What instructions make of abstract values, or the first check that they fail.
use Rattle.std.specs.Prelude.{ℕ, ◌-◌, ◌^◌, ◌==◌, Bool, if◌then◌else◌, List, slice_set, Result, Ok, Err}
use Rattle.refusals.specs.declared.RefusalNumber.{RefusalNumber}
use Rattle.refusals.specs.declared.RefusalNumber.TheVariants as refusal
use Rattle.abs_domain.specs.Arithmetic.{move_in, arithmetic_in, negation_in, signed_move_in, byte_order_in}
use Rattle.abs_domain.specs.Branches.{branch_first, branch_second}
use Rattle.abs_domain.specs.declared.domain.Domain.{Ghosts}
use Rattle.abs_domain.specs.declared.operations.Binary.TheVariants as binary
use Rattle.abs_regs.specs.declared.address.Address.{Address}
use Rattle.abs_regs.specs.declared.address.Address.TheVariants as address
use Rattle.abs_regs.specs.declared.value.AbsVal.{AbsVal}
use Rattle.abs_regs.specs.declared.value.AbsVal.TheVariants as known
use Rattle.abs_regs.specs.Values.{value_in}
use Rattle.bpf_profile.specs.declared.instruction.ByteOrder.{ByteOrder}
use Rattle.bpf_profile.specs.declared.instruction.Comparison.{Comparison}
use Rattle.bpf_profile.specs.declared.instruction.Operand.{Operand}
use Rattle.bpf_profile.specs.declared.instruction.Operand.TheVariants as operand
use Rattle.bpf_profile.specs.declared.instruction.Operation.{Operation}
use Rattle.bpf_profile.specs.declared.instruction.Operation.TheVariants as operation
use Rattle.bpf_profile.specs.declared.instruction.Size.{Size}
use Rattle.bpf_profile.specs.declared.instruction.Width.{Width}
use Rattle.bpf_profile.specs.declared.instruction.Width.TheVariants as width
use Rattle.bpf_profile.specs.Words.{word_sum, low, bits_of}

-- what follows where there is no fault
infixl 10 ◌>>=◌
abbrev pub ◌>>=◌ : {A B : Type 0} → Result A RefusalNumber → (A → Result B RefusalNumber) → Result B RefusalNumber
(Ok a) >>= f = f a
(Err number) >>= f = Err number

-- ---- operands

-- a value that is set
abbrev pub set_in : {X : Type 0} → AbsVal X → Result (AbsVal X) RefusalNumber
set_in known.Unset = Err refusal.UnsetRegister
set_in a = Ok a

-- a number
abbrev pub number_in : {X : Type 0} → AbsVal X → Result X RefusalNumber
number_in known.Unset = Err refusal.UnsetRegister
number_in (known.Number a) = Ok a
number_in a = Err refusal.PointerUsed

-- two numbers: both have to be set before either has to be a number
abbrev pub numbers_in : {X : Type 0} → AbsVal X → AbsVal X → Result (X × X) RefusalNumber
numbers_in known.Unset b = Err refusal.UnsetRegister
numbers_in a known.Unset = Err refusal.UnsetRegister
numbers_in (known.Number a) (known.Number b) = Ok (a, b)
numbers_in a b = Err refusal.PointerUsed

abbrev pub operand_in : {X : Type 0} → Ghosts X → List (AbsVal X) → Operand → AbsVal X
operand_in domain registers (operand.Register r) = value_in registers r
operand_in domain registers (operand.Immediate n) = known.Number (domain.of_word n)

-- ---- arithmetic (RFC 9669, section 4.1)

-- a pointer into the stack plus or minus a number, which has to be a known constant
abbrev pub moved_stack : {X : Type 0} → Ghosts X → Operation → Width → ℕ → X → Result (AbsVal X) RefusalNumber
moved_stack domain operation.Add width.Bits64 offset b =
    if (domain.bounds_of b).low == (domain.bounds_of b).high then Ok (known.Stack (word_sum offset (domain.bounds_of b).low)) else Err refusal.BadPointerSum
moved_stack domain operation.Subtract width.Bits64 offset b =
    if (domain.bounds_of b).low == (domain.bounds_of b).high then Ok (known.Stack (word_sum offset (2 ^ 64 - (domain.bounds_of b).low))) else Err refusal.BadPointerSum
moved_stack domain operation width offset b = Err refusal.PointerUsed

-- a pointer into the context plus or minus a number
abbrev pub moved_context : {X : Type 0} → Ghosts X → Operation → Width → X → X → Result (AbsVal X) RefusalNumber
moved_context domain operation.Add width.Bits64 a b = Ok (known.Context (domain.computed binary.Add a b))
moved_context domain operation.Subtract width.Bits64 a b = Ok (known.Context (domain.computed binary.Subtract a b))
moved_context domain operation width a b = Err refusal.PointerUsed

-- a number plus a pointer
abbrev pub added_stack : {X : Type 0} → Ghosts X → Operation → Width → X → ℕ → Result (AbsVal X) RefusalNumber
added_stack domain operation.Add width.Bits64 a offset = moved_stack domain operation.Add width.Bits64 offset a
added_stack domain operation width a offset = Err refusal.PointerUsed

abbrev pub added_context : {X : Type 0} → Ghosts X → Operation → Width → X → X → Result (AbsVal X) RefusalNumber
added_context domain operation.Add width.Bits64 a b = moved_context domain operation.Add width.Bits64 b a
added_context domain operation width a b = Err refusal.PointerUsed

abbrev pub combined_in : {X : Type 0} → Ghosts X → Operation → Width → AbsVal X → AbsVal X → Result (AbsVal X) RefusalNumber
combined_in domain operation width known.Unset b = Err refusal.UnsetRegister
combined_in domain operation width a known.Unset = Err refusal.UnsetRegister
combined_in domain operation width (known.Number a) (known.Number b) = Ok (known.Number (arithmetic_in domain operation width a b))
combined_in domain operation width (known.Stack offset) (known.Number b) = moved_stack domain operation width offset b
combined_in domain operation width (known.Context a) (known.Number b) = moved_context domain operation width a b
combined_in domain operation width (known.Number a) (known.Stack offset) = added_stack domain operation width a offset
combined_in domain operation width (known.Number a) (known.Context b) = added_context domain operation width a b
combined_in domain operation width a b = Err refusal.PointerUsed

-- a move in class ALU64 copies any value, in class ALU the low half of a number
abbrev pub moved_in : {X : Type 0} → Ghosts X → Width → AbsVal X → Result (AbsVal X) RefusalNumber
moved_in domain width.Bits64 b = set_in b
moved_in domain width.Bits32 b = number_in b >>= (λ n. Ok (known.Number (move_in domain width.Bits32 n)))

-- the operation on the destination and the operand; a move alone doesn't read its destination
abbrev pub result_in : {X : Type 0} → Ghosts X → Operation → Width → AbsVal X → AbsVal X → Result (AbsVal X) RefusalNumber
result_in domain operation.Move width a b = moved_in domain width b
result_in domain operation width a b = combined_in domain operation width a b

abbrev pub negated_in : {X : Type 0} → Ghosts X → Width → AbsVal X → Result (AbsVal X) RefusalNumber
negated_in domain width a = number_in a >>= (λ n. Ok (known.Number (negation_in domain width n)))

abbrev pub extended_in : {X : Type 0} → Ghosts X → Width → Size → AbsVal X → Result (AbsVal X) RefusalNumber
extended_in domain width size a = number_in a >>= (λ n. Ok (known.Number (signed_move_in domain width size n)))

abbrev pub reordered_in : {X : Type 0} → Ghosts X → ByteOrder → Size → AbsVal X → Result (AbsVal X) RefusalNumber
reordered_in domain order size a = number_in a >>= (λ n. Ok (known.Number (byte_order_in domain order size n)))

-- ---- conditional jumps (section 4.3)

-- the number that is compared with: of an immediate as many bits as the width has
abbrev pub compared_in : {X : Type 0} → Ghosts X → Width → List (AbsVal X) → Operand → AbsVal X
compared_in domain width registers (operand.Register r) = value_in registers r
compared_in domain width registers (operand.Immediate n) = known.Number (domain.of_word (low (bits_of width) n))

-- the registers, refined where the comparison holds, or where it doesn't; a comparison of a register with itself refines nothing
abbrev pub learnt_in : {X : Type 0} → Ghosts X → Comparison → Width → Bool → List (AbsVal X) → ℕ → Operand → X → X → List (AbsVal X)
learnt_in domain comparison width holds registers left (operand.Register right) a b =
    if left == right then registers
    else slice_set (slice_set registers left (known.Number (branch_first domain comparison width holds a b))) right (known.Number (branch_second domain comparison width holds a b))
learnt_in domain comparison width holds registers left (operand.Immediate n) a b = slice_set registers left (known.Number (branch_first domain comparison width holds a b))

abbrev pub branched_in : {X : Type 0} → Ghosts X → Comparison → Width → Bool → List (AbsVal X) → ℕ → Operand → Result (List (AbsVal X)) RefusalNumber
branched_in domain comparison width holds registers left right =
    numbers_in (value_in registers left) (compared_in domain width registers right) >>= (λ n. Ok (learnt_in domain comparison width holds registers left right n.0 n.1))

-- ---- addresses (section 5)

-- a pointer, moved by the instruction's offset
abbrev pub address_in : {X : Type 0} → Ghosts X → AbsVal X → ℕ → Result (Address X) RefusalNumber
address_in domain known.Unset distance = Err refusal.UnsetRegister
address_in domain (known.Number a) distance = Err refusal.NotPointer
address_in domain (known.Stack offset) distance = Ok (address.Stack (word_sum offset distance))
address_in domain (known.Context a) distance = Ok (address.Context (domain.computed binary.Add a (domain.of_word distance)))
