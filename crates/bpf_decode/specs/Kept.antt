-- What a decoded program keeps beside its slots.
use Rattle.std.specs.Prelude.{◌≡◌, ℕ, List, length, map, Option}
use Rattle.std.specs.List.{range_with_len}
use Rattle.bpf_profile.specs.declared.instruction.Instruction.{Instruction}
use Rattle.bpf_profile.specs.declared.slot.Slot.{Slot}
use Rattle.bpf_profile.specs.Meaning.{instruction_at}

-- the instruction at each of the first so many slots
abbrev pub first_instructions : List Slot → ℕ → List (Option Instruction)
first_instructions slots count = map (instruction_at slots) (range_with_len 0 count)

-- the instruction at each slot
abbrev pub AreInstructions : List Slot → List (Option Instruction) → Type 0
AreInstructions slots instructions = instructions ≡ first_instructions slots (length slots)
