-- An opcode and its number name each other.
use Rattle.std.proofs.Common.{◌≡◌, refl, sym, ap, ◌∙◌, ℕ, zero, suc, ◌<◌, Bool, true, false, eqb, Result, Ok, Err, arith}
use Rattle.std.specs.Prelude.{◌==◌, ◌&&◌}
use Rattle.std.proofs.lemmas.Bool.{eqb-true, eqb-false, and_parts}
use Rattle.refusals.specs.declared.RefusalNumber.{RefusalNumber}
use Rattle.bpf_profile.specs.declared.instruction.ByteOrder.{ByteOrder}
use Rattle.bpf_profile.specs.declared.instruction.ByteOrder.TheVariants as order
use Rattle.bpf_profile.specs.declared.instruction.Comparison.{Comparison}
use Rattle.bpf_profile.specs.declared.instruction.Comparison.TheVariants as comparison
use Rattle.bpf_profile.specs.declared.instruction.Extension.{Extension}
use Rattle.bpf_profile.specs.declared.instruction.Extension.TheVariants as extension
use Rattle.bpf_profile.specs.declared.instruction.Operation.{Operation}
use Rattle.bpf_profile.specs.declared.instruction.Operation.TheVariants as operation
use Rattle.bpf_profile.specs.declared.instruction.Size.{Size}
use Rattle.bpf_profile.specs.declared.instruction.Size.TheVariants as size
use Rattle.bpf_profile.specs.declared.instruction.Width.TheVariants as width
use Rattle.bpf_profile.specs.declared.opcode.Opcode.{Opcode}
use Rattle.bpf_profile.specs.declared.opcode.Opcode.TheVariants as is
use Rattle.bpf_profile.specs.declared.opcode.Source.{Source}
use Rattle.bpf_profile.specs.declared.opcode.Source.TheVariants as source
use Rattle.bpf_profile.specs.Opcodes.{opcode_of, operation_of, comparison_of, size_of, arithmetic_opcode, convert_opcode, jump_opcode, immediate_opcode, load_opcode, store_opcode, store_register_opcode}
use Rattle.bpf_decode.specs.OpcodeNumbers.{opcode_number, is_listed}

-- ---- from opcodes to numbers and back

arithmetic_bits32_immediate : (operation : Operation) → is_listed (is.Arithmetic operation width.Bits32 source.Immediate) ≡ true → opcode_of (opcode_number (is.Arithmetic operation width.Bits32 source.Immediate)) ≡ Ok (is.Arithmetic operation width.Bits32 source.Immediate)
unfolding opcode_of arithmetic_opcode operation_of
arithmetic_bits32_immediate operation.SignedDivide listed = absurd cc
arithmetic_bits32_immediate operation.SignedModulo listed = absurd cc
arithmetic_bits32_immediate operation listed = refl

arithmetic_bits32_register : (operation : Operation) → is_listed (is.Arithmetic operation width.Bits32 source.Register) ≡ true → opcode_of (opcode_number (is.Arithmetic operation width.Bits32 source.Register)) ≡ Ok (is.Arithmetic operation width.Bits32 source.Register)
unfolding opcode_of arithmetic_opcode operation_of
arithmetic_bits32_register operation.SignedDivide listed = absurd cc
arithmetic_bits32_register operation.SignedModulo listed = absurd cc
arithmetic_bits32_register operation listed = refl

arithmetic_bits64_immediate : (operation : Operation) → is_listed (is.Arithmetic operation width.Bits64 source.Immediate) ≡ true → opcode_of (opcode_number (is.Arithmetic operation width.Bits64 source.Immediate)) ≡ Ok (is.Arithmetic operation width.Bits64 source.Immediate)
unfolding opcode_of arithmetic_opcode operation_of
arithmetic_bits64_immediate operation.SignedDivide listed = absurd cc
arithmetic_bits64_immediate operation.SignedModulo listed = absurd cc
arithmetic_bits64_immediate operation listed = refl

arithmetic_bits64_register : (operation : Operation) → is_listed (is.Arithmetic operation width.Bits64 source.Register) ≡ true → opcode_of (opcode_number (is.Arithmetic operation width.Bits64 source.Register)) ≡ Ok (is.Arithmetic operation width.Bits64 source.Register)
unfolding opcode_of arithmetic_opcode operation_of
arithmetic_bits64_register operation.SignedDivide listed = absurd cc
arithmetic_bits64_register operation.SignedModulo listed = absurd cc
arithmetic_bits64_register operation listed = refl

branch_bits32_immediate : (comparison : Comparison) → opcode_of (opcode_number (is.Branch comparison width.Bits32 source.Immediate)) ≡ Ok (is.Branch comparison width.Bits32 source.Immediate)
unfolding opcode_of jump_opcode comparison_of
branch_bits32_immediate comparison.Equal = refl
branch_bits32_immediate comparison = refl

branch_bits32_register : (comparison : Comparison) → opcode_of (opcode_number (is.Branch comparison width.Bits32 source.Register)) ≡ Ok (is.Branch comparison width.Bits32 source.Register)
unfolding opcode_of jump_opcode comparison_of
branch_bits32_register comparison.Equal = refl
branch_bits32_register comparison = refl

branch_bits64_immediate : (comparison : Comparison) → opcode_of (opcode_number (is.Branch comparison width.Bits64 source.Immediate)) ≡ Ok (is.Branch comparison width.Bits64 source.Immediate)
unfolding opcode_of jump_opcode comparison_of
branch_bits64_immediate comparison.Equal = refl
branch_bits64_immediate comparison = refl

branch_bits64_register : (comparison : Comparison) → opcode_of (opcode_number (is.Branch comparison width.Bits64 source.Register)) ≡ Ok (is.Branch comparison width.Bits64 source.Register)
unfolding opcode_of jump_opcode comparison_of
branch_bits64_register comparison.Equal = refl
branch_bits64_register comparison = refl

named_convert : (order : ByteOrder) → opcode_of (opcode_number (is.Convert order)) ≡ Ok (is.Convert order)
unfolding opcode_of arithmetic_opcode convert_opcode
named_convert order.Little = refl
named_convert order.Big = refl
named_convert order.Swap = refl

named_load : (size : Size) (extension : Extension) → is_listed (is.Load size extension) ≡ true → opcode_of (opcode_number (is.Load size extension)) ≡ Ok (is.Load size extension)
unfolding opcode_of load_opcode size_of
named_load size.DoubleWord extension.Sign listed = absurd cc
named_load size.DoubleWord extension.Zero listed = refl
named_load size.Byte extension.Sign listed = refl
named_load size.Byte extension.Zero listed = refl
named_load size.HalfWord extension.Sign listed = refl
named_load size.HalfWord extension.Zero listed = refl
named_load size.Word extension.Sign listed = refl
named_load size.Word extension.Zero listed = refl

named_store : (size : Size) (source : Source) → opcode_of (opcode_number (is.Store size source)) ≡ Ok (is.Store size source)
unfolding opcode_of store_opcode store_register_opcode size_of
named_store size.DoubleWord source.Immediate = refl
named_store size.DoubleWord source.Register = refl
named_store size.Byte source.Immediate = refl
named_store size.Byte source.Register = refl
named_store size.HalfWord source.Immediate = refl
named_store size.HalfWord source.Register = refl
named_store size.Word source.Immediate = refl
named_store size.Word source.Register = refl

pub numbers_name : (opcode : Opcode) → is_listed opcode ≡ true → opcode_of (opcode_number opcode) ≡ Ok opcode
unfolding opcode_of arithmetic_opcode jump_opcode immediate_opcode
numbers_name (is.Arithmetic operation width.Bits32 source.Immediate) listed = arithmetic_bits32_immediate operation listed
numbers_name (is.Arithmetic operation width.Bits32 source.Register) listed = arithmetic_bits32_register operation listed
numbers_name (is.Arithmetic operation width.Bits64 source.Immediate) listed = arithmetic_bits64_immediate operation listed
numbers_name (is.Arithmetic operation width.Bits64 source.Register) listed = arithmetic_bits64_register operation listed
numbers_name (is.Negate width.Bits32) listed = refl
numbers_name (is.Negate width.Bits64) listed = refl
numbers_name (is.Convert order) listed = named_convert order
numbers_name is.LoadImmediate listed = refl
numbers_name (is.Load size extension) listed = named_load size extension listed
numbers_name (is.Store size source) listed = named_store size source
numbers_name (is.Jump width.Bits32) listed = refl
numbers_name (is.Jump width.Bits64) listed = refl
numbers_name (is.Branch comparison width.Bits32 source.Immediate) listed = branch_bits32_immediate comparison
numbers_name (is.Branch comparison width.Bits32 source.Register) listed = branch_bits32_register comparison
numbers_name (is.Branch comparison width.Bits64 source.Immediate) listed = branch_bits64_immediate comparison
numbers_name (is.Branch comparison width.Bits64 source.Register) listed = branch_bits64_register comparison
numbers_name is.Call listed = refl
numbers_name is.Exit listed = refl

-- ---- from numbers to opcodes and back: a test of each of the 256 numbers

abbrev numbered : ℕ → Result Opcode RefusalNumber → Bool
numbered n (Ok opcode) = (opcode_number opcode == n) && is_listed opcode
numbered n (Err number) = true

all_numbered : ℕ → Bool
all_numbered zero = true
all_numbered (suc n) = numbered n (opcode_of n) && all_numbered n

tested : all_numbered 256 ≡ true
unfolding all_numbered opcode_of operation_of comparison_of size_of arithmetic_opcode convert_opcode jump_opcode immediate_opcode load_opcode store_opcode store_register_opcode
tested = refl

last_or : (n most : ℕ) (is_last : Bool) → eqb n most ≡ is_last → numbered most (opcode_of most) ≡ true → (¬ (n ≡ most) → numbered n (opcode_of n) ≡ true) → numbered n (opcode_of n) ≡ true
last_or n most true e last rest = let same = eqb-true n most e in rw same last
last_or n most false e last rest = rest (eqb-false n most e)

below_numbered : (most n : ℕ) → n < most → all_numbered most ≡ true → numbered n (opcode_of n) ≡ true
unfolding all_numbered
below_numbered zero n h all = absurd (omega arith)
below_numbered (suc most) n h all =
    let parts = and_parts (numbered most (opcode_of most)) (all_numbered most) all in
    last_or n most (eqb n most) refl parts.0 (λ other. below_numbered most n (omega arith) parts.1)

pub names_number : (n : ℕ) (opcode : Opcode) → n < 256 → opcode_of n ≡ Ok opcode → (opcode_number opcode ≡ n) × (is_listed opcode ≡ true)
names_number n opcode small e =
    let test : numbered n (Ok opcode) ≡ true = ap (numbered n) (sym e) ∙ below_numbered 256 n small tested in
    let parts = and_parts (opcode_number opcode == n) (is_listed opcode) test in
    (eqb-true _ n parts.0, parts.1)
