-- Instructions and their slots stand for each other.
use Rattle.std.proofs.Common.{◌≡◌, refl, ap, ◌∙◌, ℕ, ◌+◌, ◌*◌, ◌/◌, ◌^◌, ◌<◌, true, false, Option, Some, Result, Ok, arith}
use Rattle.std.specs.Prelude.{nat_lt, ◌&&◌, IfSome}
use Rattle.std.proofs.lemmas.Bool.{lt-ltb, and_from}
use Rattle.refusals.specs.declared.RefusalNumber.{RefusalNumber}
use Rattle.bpf_profile.specs.declared.instruction.ByteOrder.{ByteOrder}
use Rattle.bpf_profile.specs.declared.instruction.Comparison.{Comparison}
use Rattle.bpf_profile.specs.declared.instruction.Extension.{Extension}
use Rattle.bpf_profile.specs.declared.instruction.Extension.TheVariants as extension
use Rattle.bpf_profile.specs.declared.instruction.Instruction.{Instruction}
use Rattle.bpf_profile.specs.declared.instruction.Instruction.TheVariants as instruction
use Rattle.bpf_profile.specs.declared.instruction.Operand.{Operand}
use Rattle.bpf_profile.specs.declared.instruction.Operand.TheVariants as operand
use Rattle.bpf_profile.specs.declared.instruction.Operation.{Operation}
use Rattle.bpf_profile.specs.declared.instruction.Operation.TheVariants as operation
use Rattle.bpf_profile.specs.declared.instruction.Size.{Size}
use Rattle.bpf_profile.specs.declared.instruction.Size.TheVariants as size
use Rattle.bpf_profile.specs.declared.instruction.Width.{Width}
use Rattle.bpf_profile.specs.declared.instruction.Width.TheVariants as width
use Rattle.bpf_profile.specs.declared.opcode.Opcode.{Opcode}
use Rattle.bpf_profile.specs.declared.opcode.Opcode.TheVariants as is
use Rattle.bpf_profile.specs.declared.opcode.Source.{Source}
use Rattle.bpf_profile.specs.declared.opcode.Source.TheVariants as source
use Rattle.bpf_profile.specs.declared.slot.Slot.{Slot}
use Rattle.bpf_profile.specs.declared.slot.Slot.TheVariants.{Tail}
use Rattle.bpf_profile.specs.Slots.{instruction_of, read_opcode, read_fields, instruction_with, wide_instruction, arithmetic_instruction, operand_of, fields_fit, registers_fit, is_left_out}
use Rattle.bpf_profile.specs.Words.{low, bits_in, sign_extended}
use Rattle.bpf_decode.specs.OpcodeNumbers.{is_listed}
use Rattle.bpf_decode.specs.Encoding.{first_slot, second_slot, slot_of, source_of, source_field, operand_field, variant_field, unsigned_operation, immediate_field, offset_field, IsInstruction, IsOperand, IsExtended, IsConverted, IsLoaded}
use Rattle.bpf_decode.proofs.Numbers.{numbers_name}

-- ---- from instructions to slots and back

-- what the tests of a slot come to, where its opcode is known and they pass
pub record Passes (opcode : Opcode) (dst src off imm : ℕ) : Type 0 where
  pub kept : is_left_out opcode src ≡ false
  pub fit : fields_fit opcode (record { dst = dst; src = src; off = off; imm = imm }) ≡ true
  pub registers : registers_fit opcode (record { dst = dst; src = src; off = off; imm = imm }) ≡ true

pass : (opcode : Opcode) (dst src off imm : ℕ) (next : Option Slot) → Passes opcode dst src off imm
    → read_fields opcode (record { dst = dst; src = src; off = off; imm = imm }) next ≡ instruction_with opcode (record { dst = dst; src = src; off = off; imm = imm }) next
unfolding read_fields
pass opcode dst src off imm next passes = rw (passes.kept, passes.fit, passes.registers) refl

through : (opcode : Opcode) (dst src off imm : ℕ) (next : Option Slot) (i : Instruction) → is_listed opcode ≡ true → Passes opcode dst src off imm
    → instruction_with opcode (record { dst = dst; src = src; off = off; imm = imm }) next ≡ Ok i
    → instruction_of (slot_of opcode dst src off imm) next ≡ Ok i
unfolding instruction_of
through opcode dst src off imm next i listed passes e =
    ap (λ (r : Result Opcode RefusalNumber). read_opcode r (record { dst = dst; src = src; off = off; imm = imm }) next) (numbers_name opcode listed) ∙ pass opcode dst src off imm next passes ∙ e

writes : (dst src : ℕ) → dst < 10 → src < 11 → (nat_lt dst 10 && nat_lt src 11) ≡ true
writes dst src d s = and_from _ _ (lt-ltb dst 10 d) (lt-ltb src 11 s)

reads : (dst src : ℕ) → dst < 11 → src < 11 → (nat_lt dst 11 && nat_lt src 11) ≡ true
reads dst src d s = and_from _ _ (lt-ltb dst 11 d) (lt-ltb src 11 s)

source_small : (right : Operand) → IsOperand right → source_field right < 11
source_small (operand.Register r) h = h
source_small (operand.Immediate w) h = omega arith

operand_again : (right : Operand) (dst off : ℕ) → IsOperand right → operand_of (source_of right) (record { dst = dst; src = source_field right; off = off; imm = operand_field right }) ≡ right
operand_again (operand.Register r) dst off h = refl
operand_again (operand.Immediate w) dst off h = ap operand.Immediate h

listed_unsigned : (operation : Operation) (w : Width) (s : Source) → is_listed (is.Arithmetic (unsigned_operation operation) w s) ≡ true
listed_unsigned operation.SignedDivide w s = refl
listed_unsigned operation.SignedModulo w s = refl
listed_unsigned operation w s = refl

arithmetic_fit : (operation : Operation) (w : Width) (d : ℕ) (right : Operand)
    → fields_fit (is.Arithmetic (unsigned_operation operation) w (source_of right)) (record { dst = d; src = source_field right; off = variant_field operation; imm = operand_field right }) ≡ true
arithmetic_fit operation.SignedDivide w d (operand.Register r) = refl
arithmetic_fit operation.SignedDivide w d (operand.Immediate i) = refl
arithmetic_fit operation.SignedModulo w d (operand.Register r) = refl
arithmetic_fit operation.SignedModulo w d (operand.Immediate i) = refl
arithmetic_fit operation w d (operand.Register r) = refl
arithmetic_fit operation w d (operand.Immediate i) = refl

arithmetic_again : (operation : Operation) (w : Width) (d : ℕ) (right : Operand) → IsOperand right
    → arithmetic_instruction (unsigned_operation operation) w (source_of right) (record { dst = d; src = source_field right; off = variant_field operation; imm = operand_field right })
    ≡ instruction.Arithmetic operation w d right
arithmetic_again operation.SignedDivide w d right h = ap (instruction.Arithmetic operation.SignedDivide w d) (operand_again right d 1 h)
arithmetic_again operation.SignedModulo w d right h = ap (instruction.Arithmetic operation.SignedModulo w d) (operand_again right d 1 h)
arithmetic_again operation w d right h = ap (instruction.Arithmetic operation w d) (operand_again right d 0 h)

move_fit : (w : Width) (size : Size) (d s : ℕ) → IsExtended w size → fields_fit (is.Arithmetic operation.Move w source.Register) (record { dst = d; src = s; off = bits_in size; imm = 0 }) ≡ true
move_fit width.Bits64 size.DoubleWord d s h = absurd h
move_fit width.Bits32 size.DoubleWord d s h = absurd h
move_fit width.Bits32 size.Word d s h = absurd h
move_fit width.Bits32 size.Byte d s h = refl
move_fit width.Bits32 size.HalfWord d s h = refl
move_fit width.Bits64 size.Byte d s h = refl
move_fit width.Bits64 size.HalfWord d s h = refl
move_fit width.Bits64 size.Word d s h = refl

move_again : (w : Width) (size : Size) (d s : ℕ) → IsExtended w size
    → arithmetic_instruction operation.Move w source.Register (record { dst = d; src = s; off = bits_in size; imm = 0 }) ≡ instruction.MoveSigned w size d s
move_again width.Bits64 size.DoubleWord d s h = absurd h
move_again width.Bits32 size.DoubleWord d s h = absurd h
move_again width.Bits32 size.Word d s h = absurd h
move_again width.Bits32 size.Byte d s h = refl
move_again width.Bits32 size.HalfWord d s h = refl
move_again width.Bits64 size.Byte d s h = refl
move_again width.Bits64 size.HalfWord d s h = refl
move_again width.Bits64 size.Word d s h = refl

branch_fit : (c : Comparison) (w : Width) (d off : ℕ) (right : Operand)
    → fields_fit (is.Branch c w (source_of right)) (record { dst = d; src = source_field right; off = off; imm = operand_field right }) ≡ true
branch_fit c w d off (operand.Register r) = refl
branch_fit c w d off (operand.Immediate i) = refl

store_fit : (size : Size) (d off : ℕ) (right : Operand)
    → fields_fit (is.Store size (source_of right)) (record { dst = d; src = source_field right; off = off; imm = operand_field right }) ≡ true
store_fit size d off (operand.Register r) = refl
store_fit size d off (operand.Immediate i) = refl

whole_value : (value : ℕ) → value < 2 ^ 64 → value / 2 ^ 32 * 2 ^ 32 + low 32 value ≡ value
whole_value value h = omega arith

wide_again : (d value : ℕ) (next : Option Slot) → value < 2 ^ 64 → next ≡ Some (Tail (value / 2 ^ 32))
    → wide_instruction (record { dst = d; src = 0; off = 0; imm = low 32 value }) next ≡ Ok (instruction.LoadImmediate d value)
wide_again d value next h e = rw e (ap (λ (n : ℕ). Ok (instruction.LoadImmediate d n)) (whole_value value h))

convert_fit : (order : ByteOrder) (size : Size) (d : ℕ) → IsConverted size → fields_fit (is.Convert order) (record { dst = d; src = 0; off = 0; imm = bits_in size }) ≡ true
convert_fit order size.Byte d h = absurd h
convert_fit order size.HalfWord d h = refl
convert_fit order size.Word d h = refl
convert_fit order size.DoubleWord d h = refl

convert_again : (order : ByteOrder) (size : Size) (d : ℕ) (next : Option Slot) → IsConverted size
    → instruction_with (is.Convert order) (record { dst = d; src = 0; off = 0; imm = bits_in size }) next ≡ Ok (instruction.Convert order size d)
convert_again order size.Byte d next h = absurd h
convert_again order size.HalfWord d next h = refl
convert_again order size.Word d next h = refl
convert_again order size.DoubleWord d next h = refl

loads : (size : Size) (e : Extension) → IsLoaded size e → is_listed (is.Load size e) ≡ true
loads size.DoubleWord extension.Sign h = absurd h
loads size.DoubleWord extension.Zero h = refl
loads size.Byte e h = refl
loads size.HalfWord e h = refl
loads size.Word e h = refl

pub read_again : (i : Instruction) (next : Option Slot) → IsInstruction i → IfSome (second_slot i) (λ tail. next ≡ Some tail) → instruction_of (first_slot i) next ≡ Ok i
read_again (instruction.Arithmetic operation w d right) next (writable, fits) tail =
    through (is.Arithmetic (unsigned_operation operation) w (source_of right)) d (source_field right) (variant_field operation) (operand_field right) next _
    (listed_unsigned operation w (source_of right))
    (record { kept = refl; fit = arithmetic_fit operation w d right; registers = writes d _ writable (source_small right fits) })
    (ap Ok (arithmetic_again operation w d right fits))
read_again (instruction.Negate w d) next writable tail =
    through (is.Negate w) d 0 0 0 next _ refl (record { kept = refl; fit = refl; registers = writes d 0 writable (omega arith) }) refl
read_again (instruction.MoveSigned w size d s) next (extended, writable, readable) tail =
    through (is.Arithmetic operation.Move w source.Register) d s (bits_in size) 0 next _ refl
    (record { kept = refl; fit = move_fit w size d s extended; registers = writes d s writable readable })
    (ap Ok (move_again w size d s extended))
read_again (instruction.Convert order size d) next (converted, writable) tail =
    through (is.Convert order) d 0 0 (bits_in size) next _ refl
    (record { kept = refl; fit = convert_fit order size d converted; registers = writes d 0 writable (omega arith) })
    (convert_again order size d next converted)
read_again (instruction.LoadImmediate d value) next (writable, small) tail =
    through is.LoadImmediate d 0 0 (low 32 value) next _ refl (record { kept = refl; fit = refl; registers = writes d 0 writable (omega arith) })
    (wide_again d value next small tail)
read_again (instruction.Load size e d base offset) next (loaded, writable, readable, fits) tail =
    through (is.Load size e) d base (offset_field offset) 0 next _ (loads size e loaded)
    (record { kept = refl; fit = refl; registers = writes d base writable readable })
    (ap (λ (n : ℕ). Ok (instruction.Load size e d base n)) fits)
read_again (instruction.Store size base offset right) next (readable, fits, good) tail =
    through (is.Store size (source_of right)) base (source_field right) (offset_field offset) (operand_field right) next _ refl
    (record { kept = refl; fit = store_fit size base (offset_field offset) right; registers = reads base _ readable (source_small right good) })
    (ap (λ (o : Operand). Ok (instruction.Store size base (sign_extended 16 (low 16 offset)) o)) (operand_again right base (offset_field offset) good)
    ∙ ap (λ (n : ℕ). Ok (instruction.Store size base n right)) fits)
read_again (instruction.Jump width.Bits32 distance) next fits tail =
    through (is.Jump width.Bits32) 0 0 0 (immediate_field distance) next _ refl (record { kept = refl; fit = refl; registers = refl })
    (ap (λ (n : ℕ). Ok (instruction.Jump width.Bits32 n)) fits)
read_again (instruction.Jump width.Bits64 distance) next fits tail =
    through (is.Jump width.Bits64) 0 0 (offset_field distance) 0 next _ refl (record { kept = refl; fit = refl; registers = refl })
    (ap (λ (n : ℕ). Ok (instruction.Jump width.Bits64 n)) fits)
read_again (instruction.Branch c w left right distance) next (readable, good, fits) tail =
    through (is.Branch c w (source_of right)) left (source_field right) (offset_field distance) (operand_field right) next _ refl
    (record { kept = refl; fit = branch_fit c w left (offset_field distance) right; registers = reads left _ readable (source_small right good) })
    (ap (λ (o : Operand). Ok (instruction.Branch c w left o (sign_extended 16 (low 16 distance)))) (operand_again right left (offset_field distance) good)
    ∙ ap (λ (n : ℕ). Ok (instruction.Branch c w left right n)) fits)
read_again (instruction.Call helper) next small tail = through is.Call 0 0 0 helper next _ refl (record { kept = refl; fit = refl; registers = refl }) refl
read_again instruction.Exit next fits tail = through is.Exit 0 0 0 0 next _ refl (record { kept = refl; fit = refl; registers = refl }) refl
