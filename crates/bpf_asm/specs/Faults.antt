-- Which lines of a text have a fault, and which fault is its first.
use Rattle.std.specs.Prelude.{◌≡◌, ℕ, suc, ◌<◌, List, [], length, take, Option, Some, Result, Ok, Err, slice_get}
use Rattle.std.specs.List.{flat_map}
use Rattle.refusals.specs.declared.RefusalNumber.{RefusalNumber}
use Rattle.refusals.specs.declared.RefusalNumber.TheVariants.{BadTextLength}
use Rattle.bpf_profile.specs.declared.instruction.Instruction.{Instruction}
use Rattle.bpf_profile.specs.declared.slot.Slot.{Slot}
use Rattle.bpf_asm.specs.Assembly.{lines_of, small_letters, statement_on, slots_of}
use Rattle.bpf_profile.specs.Limits.{most_slots}

-- the lines of a text, as they are read
abbrev pub lines_in : List ℕ → List (List ℕ)
lines_in text = lines_of (small_letters text)

-- the slots that a line adds; none where it can't be read
abbrev pub slots_read : Result (Option Instruction) RefusalNumber → List Slot
slots_read (Ok statement) = slots_of statement
slots_read (Err kind) = []

abbrev pub slots_on : List ℕ → List Slot
slots_on line = slots_read (statement_on line)

-- the line at this place, from 0 on, has a fault: it can't be read, or the slots up to its end are more than 4,096
pub data HasFault (lines : List (List ℕ)) (place : ℕ) (kind : RefusalNumber) : Type 0 where
  unread : (line : List ℕ) → slice_get lines place ≡ Some line → statement_on line ≡ Err kind → HasFault lines place kind
  too_long : (line : List ℕ) (statement : Option Instruction) → slice_get lines place ≡ Some line → statement_on line ≡ Ok statement → kind ≡ BadTextLength → most_slots < length (flat_map slots_on (take (suc place) lines)) → HasFault lines place kind

-- no line has a fault
abbrev pub IsFaultless : List (List ℕ) → Type 0
IsFaultless lines = (place : ℕ) (kind : RefusalNumber) → ¬ HasFault lines place kind

-- this line has a fault of this kind, and no earlier line has one
pub record IsFirstFault (lines : List (List ℕ)) (place : ℕ) (kind : RefusalNumber) : Type 0 where
  pub here : HasFault lines place kind
  pub none_before : (earlier : ℕ) (other : RefusalNumber) → earlier < place → ¬ HasFault lines earlier other
