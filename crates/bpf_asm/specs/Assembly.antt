-- Which program a text stands for, line by line on tokens; and the first fault of a text that stands for none.
use Rattle.std.specs.Prelude.{◌≡◌, ℕ, ◌+◌, ◌<◌, ◌≤◌, ◌==◌, nat_lt, if◌then◌else◌, List, [], ◌∷◌, ◌++◌, length, map, Option, Some, None, Result, Ok, Err}
use Rattle.std.specs.Char.{to_ascii_lowercase}
use Rattle.std.specs.List.{flat_map, slice_split}
use Rattle.refusals.specs.declared.RefusalNumber.{RefusalNumber}
use Rattle.refusals.specs.declared.RefusalNumber.TheVariants.{BadTextLength, AssemblerOutOfMemory}
use Rattle.bpf_profile.specs.declared.instruction.Instruction.{Instruction}
use Rattle.bpf_profile.specs.declared.slot.Slot.{Slot}
use Rattle.bpf_decode.specs.Encoding.{encoding}
use Rattle.bpf_asm.specs.declared.error.AsmError.{AsmError}
use Rattle.bpf_asm.specs.Tokens.{tokens_of}
use Rattle.bpf_asm.specs.Reading.{statement_of, ◌>>=◌}
use Rattle.bpf_profile.specs.Limits.{most_slots}

-- the lines of a text in small letters
abbrev pub lines_of : List ℕ → List (List ℕ)
lines_of text = slice_split (λ c. c == 10) text

abbrev pub small_letters : List ℕ → List ℕ
small_letters text = map to_ascii_lowercase text

-- what a line is read as: an instruction, or nothing where it is blank
unfoldable pub statement_on : List ℕ → Result (Option Instruction) RefusalNumber
statement_on line = statement_of (tokens_of line)

-- the slots that a line adds
abbrev pub slots_of : Option Instruction → List Slot
slots_of (Some i) = encoding i
slots_of None = []

-- each line is read, and their slots, one after another, are the program: 1 to 4,096
pub record Assembles (text : List ℕ) (slots : List Slot) : Type 0 where
  pub statements : List (Option Instruction)
  pub lines : map statement_on (lines_of (small_letters text)) ≡ map Ok statements
  pub whole : slots ≡ flat_map slots_of statements
  pub some : 0 < length slots
  pub few : length slots ≤ most_slots

-- ---- the first fault

abbrev pub fault : ℕ → RefusalNumber → AsmError
fault line kind = record { line = line; kind = kind }

abbrev pub out_of_memory : AsmError
out_of_memory = fault 0 AssemblerOutOfMemory

abbrev pub within : List Slot → Result (List Slot) RefusalNumber
within slots = if nat_lt most_slots (length slots) then Err BadTextLength else Ok slots

-- the slots with those of one line more
unfoldable pub with_line : List Slot → List ℕ → Result (List Slot) RefusalNumber
with_line slots line = do
  statement ← statement_on line
  within (slots ++ slots_of statement)

abbrev pub at_line : {A : Type 0} → ℕ → Result A RefusalNumber → Result A AsmError
at_line line (Ok a) = Ok a
at_line line (Err kind) = Err (fault line kind)

abbrev pub then_lines : Result (List Slot) AsmError → (List Slot → Result (List Slot) AsmError) → Result (List Slot) AsmError
then_lines (Ok slots) f = f slots
then_lines (Err e) f = Err e

-- the slots with those of the lines from this one on, or the first line's fault
unfoldable pub with_lines : ℕ → List Slot → List (List ℕ) → Result (List Slot) AsmError
with_lines line slots [] = Ok slots
with_lines line slots (text ∷ texts) = then_lines (at_line line (with_line slots text)) (λ longer. with_lines (line + 1) longer texts)

-- a text needs an instruction
abbrev pub not_empty : List Slot → Result (List Slot) AsmError
not_empty [] = Err (fault 0 BadTextLength)
not_empty (slot ∷ slots) = Ok (slot ∷ slots)

abbrev pub assembly_of : List ℕ → Result (List Slot) AsmError
assembly_of text = then_lines (with_lines 1 [] (lines_of (small_letters text))) not_empty
