-- The instruction that a line's tokens are read as, or why they are none.
use Rattle.std.specs.Prelude.{ℕ, ◌-◌, ◌^◌, ◌%◌, nat_lt, nat_le, if◌then◌else◌, List, [], ◌∷◌, Option, Some, None, Result, Ok, Err}
use Rattle.refusals.specs.declared.RefusalNumber.{RefusalNumber}
use Rattle.refusals.specs.declared.RefusalNumber.TheVariants.{UnknownWord, BadOperand, BadNumber}
use Rattle.bpf_profile.specs.declared.instruction.ByteOrder.{ByteOrder}
use Rattle.bpf_profile.specs.declared.instruction.Comparison.{Comparison}
use Rattle.bpf_profile.specs.declared.instruction.Extension.{Extension}
use Rattle.bpf_profile.specs.declared.instruction.Instruction.{Instruction}
use Rattle.bpf_profile.specs.declared.instruction.Instruction.TheVariants as instruction
use Rattle.bpf_profile.specs.declared.instruction.Operand.{Operand}
use Rattle.bpf_profile.specs.declared.instruction.Operand.TheVariants as operand
use Rattle.bpf_profile.specs.declared.instruction.Operation.{Operation}
use Rattle.bpf_profile.specs.declared.instruction.Size.{Size}
use Rattle.bpf_profile.specs.declared.instruction.Width.{Width}
use Rattle.bpf_profile.specs.declared.instruction.Width.TheVariants as width
use Rattle.bpf_profile.specs.Words.{low, sign_extended}
use Rattle.bpf_asm.specs.declared.arguments.Argument.{Argument}
use Rattle.bpf_asm.specs.declared.arguments.Argument.TheVariants as argument
use Rattle.bpf_asm.specs.declared.arguments.Arguments.{Arguments}
use Rattle.bpf_asm.specs.declared.arguments.Arguments.TheVariants as arguments
use Rattle.bpf_asm.specs.declared.arguments.Sign.{Sign}
use Rattle.bpf_asm.specs.declared.arguments.Sign.TheVariants as sign
use Rattle.bpf_asm.specs.declared.arguments.Numeral.{Numeral}
use Rattle.bpf_asm.specs.declared.tokens.Token.{Token}
use Rattle.bpf_asm.specs.declared.tokens.Token.TheVariants as token
use Rattle.bpf_asm.specs.declared.words.Word.{Word}
use Rattle.bpf_asm.specs.declared.words.Word.TheVariants as word
use Rattle.bpf_asm.specs.Arguments.{arguments_of}

-- the second step, where the first gave a value
infixl 10 ◌>>=◌
abbrev pub ◌>>=◌ : {A B : Type 0} → Result A RefusalNumber → (A → Result B RefusalNumber) → Result B RefusalNumber
Ok a >>= f = f a
Err refusal >>= f = Err refusal

-- ---- numbers

abbrev pub at_most : ℕ → ℕ → ℕ → Result ℕ RefusalNumber
at_most most n word = if nat_le n most then Ok word else Err BadNumber

abbrev pub ranged : Sign → ℕ → ℕ → ℕ → Result ℕ RefusalNumber
ranged sign.Minus least most n = at_most least n ((2 ^ 64 - n) % 2 ^ 64)
ranged other least most n = at_most most n n

abbrev pub magnitude_within : ℕ → ℕ → Sign → Option ℕ → Result ℕ RefusalNumber
magnitude_within least most s (Some n) = ranged s least most n
magnitude_within least most s None = Err BadNumber

-- the word of a number from -least to most
abbrev pub word_within : ℕ → ℕ → Numeral → Result ℕ RefusalNumber
word_within least most n = magnitude_within least most n.sign n.magnitude

-- only an offset has a plus
abbrev pub without_plus : Sign → Result ℕ RefusalNumber → Result ℕ RefusalNumber
without_plus sign.Plus word = Err BadOperand
without_plus other word = word

-- an immediate of 32 bits, signed or unsigned, as the word that it is sign-extended to
abbrev pub immediate_of : Numeral → Result ℕ RefusalNumber
immediate_of n = do
  word ← without_plus n.sign (word_within (2 ^ 31) (2 ^ 32 - 1) n)
  Ok (sign_extended 32 (low 32 word))

-- an immediate of 64 bits, signed or unsigned
abbrev pub wide_of : Numeral → Result ℕ RefusalNumber
wide_of n = without_plus n.sign (word_within (2 ^ 63) (2 ^ 64 - 1) n)

-- the number of a helper function
abbrev pub helper_of : Numeral → Result ℕ RefusalNumber
helper_of n = without_plus n.sign (word_within 0 (2 ^ 32 - 1) n)

-- the offset of an address or of a jump
abbrev pub offset_of : Numeral → Result ℕ RefusalNumber
offset_of n = word_within (2 ^ 15) (2 ^ 15 - 1) n

-- the distance of a jump, whose width says which field has it
abbrev pub distance_of : Width → Numeral → Result ℕ RefusalNumber
distance_of width.Bits32 n = word_within (2 ^ 31) (2 ^ 31 - 1) n
distance_of width.Bits64 n = offset_of n

-- ---- operands

-- R10 is read only (RFC 9669, section 2)
abbrev pub written : ℕ → Result ℕ RefusalNumber
written register = if nat_lt register 10 then Ok register else Err BadOperand

abbrev pub operand_of : Argument → Result Operand RefusalNumber
operand_of (argument.Register register) = Ok (operand.Register register)
operand_of (argument.Number n) = do
  word ← immediate_of n
  Ok (operand.Immediate word)
operand_of (argument.Place base offset) = Err BadOperand

-- ---- instructions, by the forms of their words

abbrev pub arithmetic_of : Operation → Width → Arguments → Result Instruction RefusalNumber
arithmetic_of operation width (arguments.Two (argument.Register destination) right) = do
  destination ← written destination
  right ← operand_of right
  Ok (instruction.Arithmetic operation width destination right)
arithmetic_of operation width other = Err BadOperand

abbrev pub negate_of : Width → Arguments → Result Instruction RefusalNumber
negate_of width (arguments.One (argument.Register destination)) = do
  destination ← written destination
  Ok (instruction.Negate width destination)
negate_of width other = Err BadOperand

abbrev pub move_signed_of : Width → Size → Arguments → Result Instruction RefusalNumber
move_signed_of width size (arguments.Two (argument.Register destination) (argument.Register from)) = do
  destination ← written destination
  Ok (instruction.MoveSigned width size destination from)
move_signed_of width size other = Err BadOperand

abbrev pub convert_of : ByteOrder → Size → Arguments → Result Instruction RefusalNumber
convert_of order size (arguments.One (argument.Register destination)) = do
  destination ← written destination
  Ok (instruction.Convert order size destination)
convert_of order size other = Err BadOperand

abbrev pub load_immediate_of : Arguments → Result Instruction RefusalNumber
load_immediate_of (arguments.Two (argument.Register destination) (argument.Number n)) = do
  destination ← written destination
  value ← wide_of n
  Ok (instruction.LoadImmediate destination value)
load_immediate_of other = Err BadOperand

abbrev pub load_of : Size → Extension → Arguments → Result Instruction RefusalNumber
load_of size extension (arguments.Two (argument.Register destination) (argument.Place base offset)) = do
  destination ← written destination
  offset ← offset_of offset
  Ok (instruction.Load size extension destination base offset)
load_of size extension other = Err BadOperand

abbrev pub store_of : Size → Arguments → Result Instruction RefusalNumber
store_of size (arguments.Two (argument.Place base offset) (argument.Number n)) = do
  offset ← offset_of offset
  word ← immediate_of n
  Ok (instruction.Store size base offset (operand.Immediate word))
store_of size other = Err BadOperand

abbrev pub store_register_of : Size → Arguments → Result Instruction RefusalNumber
store_register_of size (arguments.Two (argument.Place base offset) (argument.Register from)) = do
  offset ← offset_of offset
  Ok (instruction.Store size base offset (operand.Register from))
store_register_of size other = Err BadOperand

abbrev pub jump_of : Width → Arguments → Result Instruction RefusalNumber
jump_of width (arguments.One (argument.Number n)) = do
  distance ← distance_of width n
  Ok (instruction.Jump width distance)
jump_of width other = Err BadOperand

abbrev pub branch_of : Comparison → Width → Arguments → Result Instruction RefusalNumber
branch_of comparison width (arguments.Three (argument.Register left) right (argument.Number n)) = do
  right ← operand_of right
  distance ← offset_of n
  Ok (instruction.Branch comparison width left right distance)
branch_of comparison width other = Err BadOperand

abbrev pub call_of : Arguments → Result Instruction RefusalNumber
call_of (arguments.One (argument.Number n)) = do
  helper ← helper_of n
  Ok (instruction.Call helper)
call_of other = Err BadOperand

abbrev pub exit_of : Arguments → Result Instruction RefusalNumber
exit_of arguments.Zero = Ok instruction.Exit
exit_of other = Err BadOperand

abbrev pub instruction_from : Word → Arguments → Result Instruction RefusalNumber
instruction_from (word.Arithmetic operation width) = arithmetic_of operation width
instruction_from (word.Negate width) = negate_of width
instruction_from (word.MoveSigned width size) = move_signed_of width size
instruction_from (word.Convert order size) = convert_of order size
instruction_from word.LoadImmediate = load_immediate_of
instruction_from (word.Load size extension) = load_of size extension
instruction_from (word.Store size) = store_of size
instruction_from (word.StoreRegister size) = store_register_of size
instruction_from (word.Jump width) = jump_of width
instruction_from (word.Branch comparison width) = branch_of comparison width
instruction_from word.Call = call_of
instruction_from word.Exit = exit_of

-- ---- lines

abbrev pub with_arguments : Word → Option Arguments → Result Instruction RefusalNumber
with_arguments word (Some arguments) = instruction_from word arguments
with_arguments word None = Err BadOperand

-- the instruction of a line that is not blank
unfoldable pub instruction_of_tokens : Token → List Token → Result Instruction RefusalNumber
instruction_of_tokens (token.Word word) rest = with_arguments word (arguments_of rest)
instruction_of_tokens other rest = Err UnknownWord

-- the instruction of a line; none of a blank one
unfoldable pub statement_of : List Token → Result (Option Instruction) RefusalNumber
statement_of [] = Ok None
statement_of (t ∷ ts) = do
  instruction ← instruction_of_tokens t ts
  Ok (Some instruction)
