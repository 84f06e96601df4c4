-- The canonical text of a program: one line an instruction, one blank after the word, a comma and a blank between operands, and a line feed behind each line. Numbers are decimal.
use Rattle.std.specs.Prelude.{ℕ, suc, List, [], ◌∷◌, ◌++◌, option_to_list, slice_get, codes, decimal, ℤ, pos, negsuc}
use Rattle.std.specs.Fmt.{signed_decimal}
use Rattle.std.specs.List.{flat_map}
use Rattle.std.specs.Result.{result_ok}
use Rattle.bpf_profile.specs.declared.instruction.Instruction.{Instruction}
use Rattle.bpf_profile.specs.declared.instruction.Instruction.TheVariants as instruction
use Rattle.bpf_profile.specs.declared.instruction.Operand.{Operand}
use Rattle.bpf_profile.specs.declared.instruction.Operand.TheVariants as operand
use Rattle.bpf_profile.specs.declared.slot.Slot.{Slot}
use Rattle.bpf_profile.specs.Slots.{instruction_of}
use Rattle.bpf_profile.specs.Words.{signed}
use Rattle.bpf_asm.specs.declared.words.Word.{Word}
use Rattle.bpf_asm.specs.declared.words.Word.TheVariants as word
use Rattle.bpf_asm.specs.Names.{word_name}

-- ---- operands

abbrev pub register_text : ℕ → List ℕ
register_text register = codes "r" ++ decimal register

-- an immediate, by its signed reading
abbrev pub immediate_text : ℕ → List ℕ
immediate_text word = signed_decimal (signed 64 word)

-- an offset or a distance always has its sign
abbrev pub with_sign : ℤ → List ℕ
with_sign (pos n) = codes "+" ++ decimal n
with_sign (negsuc n) = codes "-" ++ decimal (suc n)

abbrev pub offset_text : ℕ → List ℕ
offset_text word = with_sign (signed 64 word)

abbrev pub operand_text : Operand → List ℕ
operand_text (operand.Register register) = register_text register
operand_text (operand.Immediate word) = immediate_text word

-- the address of a load or a store
abbrev pub place_text : ℕ → ℕ → List ℕ
place_text base offset = codes "[" ++ (register_text base ++ (offset_text offset ++ codes "]"))

-- ---- lines

-- the word of an instruction
abbrev pub word_of : Instruction → Word
word_of (instruction.Arithmetic operation width destination right) = word.Arithmetic operation width
word_of (instruction.Negate width destination) = word.Negate width
word_of (instruction.MoveSigned width size destination from) = word.MoveSigned width size
word_of (instruction.Convert order size destination) = word.Convert order size
word_of (instruction.LoadImmediate destination value) = word.LoadImmediate
word_of (instruction.Load size extension destination base offset) = word.Load size extension
word_of (instruction.Store size base offset (operand.Immediate number)) = word.Store size
word_of (instruction.Store size base offset (operand.Register from)) = word.StoreRegister size
word_of (instruction.Jump width distance) = word.Jump width
word_of (instruction.Branch comparison width left right distance) = word.Branch comparison width
word_of (instruction.Call helper) = word.Call
word_of instruction.Exit = word.Exit

-- what stands between two operands
abbrev pub then : List ℕ → List ℕ → List ℕ
then first second = first ++ (codes ", " ++ second)

-- the operands, with the blank before them
abbrev pub operands_text : Instruction → List ℕ
operands_text (instruction.Arithmetic operation width destination right) = codes " " ++ then (register_text destination) (operand_text right)
operands_text (instruction.Negate width destination) = codes " " ++ register_text destination
operands_text (instruction.MoveSigned width size destination from) = codes " " ++ then (register_text destination) (register_text from)
operands_text (instruction.Convert order size destination) = codes " " ++ register_text destination
operands_text (instruction.LoadImmediate destination value) = codes " " ++ then (register_text destination) (decimal value)
operands_text (instruction.Load size extension destination base offset) = codes " " ++ then (register_text destination) (place_text base offset)
operands_text (instruction.Store size base offset right) = codes " " ++ then (place_text base offset) (operand_text right)
operands_text (instruction.Jump width distance) = codes " " ++ offset_text distance
operands_text (instruction.Branch comparison width left right distance) = codes " " ++ then (register_text left) (then (operand_text right) (offset_text distance))
operands_text (instruction.Call helper) = codes " " ++ decimal helper
operands_text instruction.Exit = []

-- the line of an instruction, without its end
abbrev pub line_of : Instruction → List ℕ
line_of i = word_name (word_of i) ++ operands_text i

-- ---- programs

-- the instructions of slots, one after another; a tail stands for none
abbrev pub instructions_of : List Slot → List Instruction
instructions_of [] = []
instructions_of (slot ∷ slots) = option_to_list (result_ok (instruction_of slot (slice_get slots 0))) ++ instructions_of slots

-- the text of a program
abbrev pub text_of : List Slot → List ℕ
text_of slots = flat_map (λ i. line_of i ++ (10 ∷ [])) (instructions_of slots)
