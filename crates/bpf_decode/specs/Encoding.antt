-- The slots that stand for an instruction (RFC 9669, sections 3.1, 3.2, 4 and 5), and which instructions have such slots.
use Rattle.std.specs.Prelude.{◌≡◌, ℕ, ◌/◌, ◌^◌, ◌<◌, List, ◌∷◌, option_to_list, Option, Some, None, IfSome}
use Rattle.bpf_profile.specs.declared.instruction.Extension.{Extension}
use Rattle.bpf_profile.specs.declared.instruction.Extension.TheVariants as extension
use Rattle.bpf_profile.specs.declared.instruction.Instruction.{Instruction}
use Rattle.bpf_profile.specs.declared.instruction.Instruction.TheVariants as instruction
use Rattle.bpf_profile.specs.declared.instruction.Operand.{Operand}
use Rattle.bpf_profile.specs.declared.instruction.Operand.TheVariants as operand
use Rattle.bpf_profile.specs.declared.instruction.Operation.{Operation}
use Rattle.bpf_profile.specs.declared.instruction.Operation.TheVariants as operation
use Rattle.bpf_profile.specs.declared.instruction.Size.{Size}
use Rattle.bpf_profile.specs.declared.instruction.Size.TheVariants as size
use Rattle.bpf_profile.specs.declared.instruction.Width.{Width}
use Rattle.bpf_profile.specs.declared.instruction.Width.TheVariants as width
use Rattle.bpf_profile.specs.declared.opcode.Opcode.{Opcode}
use Rattle.bpf_profile.specs.declared.opcode.Opcode.TheVariants as is
use Rattle.bpf_profile.specs.declared.opcode.Source.{Source}
use Rattle.bpf_profile.specs.declared.opcode.Source.TheVariants as source
use Rattle.bpf_profile.specs.declared.slot.Slot.{Slot}
use Rattle.bpf_profile.specs.declared.slot.Slot.TheVariants.{Ins, Tail}
use Rattle.bpf_profile.specs.Words.{low, bits_in, sign_extended}
use Rattle.bpf_decode.specs.OpcodeNumbers.{opcode_number}

-- ---- the fields of a slot

-- a word as the immediate field of 32 bits, and as the offset field of 16 bits
abbrev pub immediate_field : ℕ → ℕ
immediate_field word = low 32 word

abbrev pub offset_field : ℕ → ℕ
offset_field word = low 16 word

-- where the second operand is, and what it puts into the source register and into the immediate
abbrev pub source_of : Operand → Source
source_of (operand.Register register) = source.Register
source_of (operand.Immediate word) = source.Immediate

abbrev pub source_field : Operand → ℕ
source_field (operand.Register register) = register
source_field (operand.Immediate word) = 0

abbrev pub operand_field : Operand → ℕ
operand_field (operand.Register register) = 0
operand_field (operand.Immediate word) = immediate_field word

-- an offset of 1 makes division and modulo signed (section 4.1)
abbrev pub variant_field : Operation → ℕ
variant_field operation.SignedDivide = 1
variant_field operation.SignedModulo = 1
variant_field operation = 0

-- the operation whose opcode a signed one has
abbrev pub unsigned_operation : Operation → Operation
unsigned_operation operation.SignedDivide = operation.Divide
unsigned_operation operation.SignedModulo = operation.Modulo
unsigned_operation operation = operation

-- ---- slots

-- the slot of an opcode, with its destination, source, offset and immediate
abbrev pub slot_of : Opcode → ℕ → ℕ → ℕ → ℕ → Slot
slot_of opcode dst src off imm = Ins (opcode_number opcode) dst src off imm

-- the slot that an instruction begins with
abbrev pub first_slot : Instruction → Slot
first_slot (instruction.Arithmetic operation width destination right) =
    slot_of (is.Arithmetic (unsigned_operation operation) width (source_of right)) destination (source_field right) (variant_field operation) (operand_field right)
first_slot (instruction.Negate width destination) = slot_of (is.Negate width) destination 0 0 0
first_slot (instruction.MoveSigned width size destination from) = slot_of (is.Arithmetic operation.Move width source.Register) destination from (bits_in size) 0
first_slot (instruction.Convert order size destination) = slot_of (is.Convert order) destination 0 0 (bits_in size)
first_slot (instruction.LoadImmediate destination value) = slot_of is.LoadImmediate destination 0 0 (low 32 value)
first_slot (instruction.Load size extension destination base offset) = slot_of (is.Load size extension) destination base (offset_field offset) 0
first_slot (instruction.Store size base offset right) = slot_of (is.Store size (source_of right)) base (source_field right) (offset_field offset) (operand_field right)
first_slot (instruction.Jump width.Bits32 distance) = slot_of (is.Jump width.Bits32) 0 0 0 (immediate_field distance)
first_slot (instruction.Jump width.Bits64 distance) = slot_of (is.Jump width.Bits64) 0 0 (offset_field distance) 0
first_slot (instruction.Branch comparison width left right distance) =
    slot_of (is.Branch comparison width (source_of right)) left (source_field right) (offset_field distance) (operand_field right)
first_slot (instruction.Call helper) = slot_of is.Call 0 0 0 helper
first_slot instruction.Exit = slot_of is.Exit 0 0 0 0

-- the second slot of a wide immediate, with the high half of its value (section 3.2)
abbrev pub second_slot : Instruction → Option Slot
second_slot (instruction.LoadImmediate destination value) = Some (Tail (value / 2 ^ 32))
second_slot instruction = None

-- one slot, or two
abbrev pub encoding : Instruction → List Slot
encoding instruction = first_slot instruction ∷ option_to_list (second_slot instruction)

-- ---- the instructions of the profile

-- a word that a field of 32 bits or of 16 bits holds, sign-extended
abbrev pub IsImmediate : ℕ → Type 0
IsImmediate word = sign_extended 32 (low 32 word) ≡ word

abbrev pub IsOffset : ℕ → Type 0
IsOffset word = sign_extended 16 (low 16 word) ≡ word

-- R10 is read only (section 2)
abbrev pub IsWritable : ℕ → Type 0
IsWritable register = register < 10

abbrev pub IsReadable : ℕ → Type 0
IsReadable register = register < 11

abbrev pub IsOperand : Operand → Type 0
IsOperand (operand.Register register) = IsReadable register
IsOperand (operand.Immediate word) = IsImmediate word

-- a move extends 1, 2 or 4 bytes to more (section 4.1)
abbrev pub IsExtended : Width → Size → Type 0
IsExtended width.Bits64 size.DoubleWord = ⊥
IsExtended width.Bits32 size.DoubleWord = ⊥
IsExtended width.Bits32 size.Word = ⊥
IsExtended width size = Unit {0}

-- a conversion has at least 2 bytes (section 4.2)
abbrev pub IsConverted : Size → Type 0
IsConverted size.Byte = ⊥
IsConverted size = Unit {0}

-- 8 bytes are loaded with no extension (section 5.2)
abbrev pub IsLoaded : Size → Extension → Type 0
IsLoaded size.DoubleWord extension.Sign = ⊥
IsLoaded size extension = Unit {0}

abbrev pub IsJump : Width → ℕ → Type 0
IsJump width.Bits32 distance = IsImmediate distance
IsJump width.Bits64 distance = IsOffset distance

-- the instructions that slots can stand for
abbrev pub IsInstruction : Instruction → Type 0
IsInstruction (instruction.Arithmetic operation width destination right) = IsWritable destination × IsOperand right
IsInstruction (instruction.Negate width destination) = IsWritable destination
IsInstruction (instruction.MoveSigned width size destination from) = IsExtended width size × IsWritable destination × IsReadable from
IsInstruction (instruction.Convert order size destination) = IsConverted size × IsWritable destination
IsInstruction (instruction.LoadImmediate destination value) = IsWritable destination × (value < 2 ^ 64)
IsInstruction (instruction.Load size extension destination base offset) = IsLoaded size extension × IsWritable destination × IsReadable base × IsOffset offset
IsInstruction (instruction.Store size base offset right) = IsReadable base × IsOffset offset × IsOperand right
IsInstruction (instruction.Jump width distance) = IsJump width distance
IsInstruction (instruction.Branch comparison width left right distance) = IsReadable left × IsOperand right × IsOffset distance
IsInstruction (instruction.Call helper) = helper < 2 ^ 32
IsInstruction instruction.Exit = Unit {0}

-- the slot, with the one after it, is what the instruction is encoded to
pub record Stands (slot : Slot) (next : Option Slot) (i : Instruction) : Type 0 where
  pub instruction : IsInstruction i
  pub first : first_slot i ≡ slot
  pub second : IfSome (second_slot i) (λ tail. next ≡ Some tail)
