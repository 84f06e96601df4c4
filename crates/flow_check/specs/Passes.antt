-- What the passes over the slots keep.
use Rattle.std.specs.Prelude.{◌≡◌, ℕ, ◌<◌, ◌≤◌, ◌==◌, ◌||◌, ◌⊎◌, Bool, true, false, List, [], ◌∷◌, length, slice_index, slice_index_or, slice_set, Contains, Option, None}
use Rattle.std.specs.Option.{option_or, option_map_or}
use Rattle.refusals.specs.declared.RefusalNumber.{RefusalNumber}
use Rattle.bpf_profile.specs.declared.instruction.Instruction.{Instruction}
use Rattle.bpf_profile.specs.declared.slot.Slot.{Slot}
use Rattle.bpf_profile.specs.Flow.{distance_of, next_of}
use Rattle.bpf_profile.specs.FlowFaults.{is_entered_from, jump_fault, next_fault}

-- marks that tell slot 0 and the slots to which an edge leads from one of the first so many
pub record AreEntered (slots : List Slot) (count : ℕ) (marks : List Bool) : Type 0 where
  pub sized : length marks ≡ length slots
  pub marked : (place : ℕ) → place < length slots → slice_index_or marks place false ≡ ((place == 0) || is_entered_from slots place count)

-- the marks with these slots marked too
abbrev pub marked_all : List Bool → List ℕ → List Bool
marked_all marks [] = marks
marked_all marks (slot ∷ rest) = marked_all (slice_set marks slot true) rest

-- numbers that were raised to a count at these slots, where they were less, and nowhere else
pub record IsLengthened (before after : List ℕ) (count : ℕ) (slots : List ℕ) : Type 0 where
  pub sized : length after ≡ length before
  pub kept : (k : ℕ) → slice_index before k ≤ slice_index after k
  pub raised : (k : ℕ) → Contains slots k → count ≤ slice_index after k
  pub shown : (k : ℕ) → (slice_index after k ≡ slice_index before k) ⊎ ((slice_index after k ≡ count) × Contains slots k)

-- what is wrong with where control goes on after an instruction: first its jump, then the next slot
abbrev pub edge_fault : List Slot → ℕ → Instruction → Option RefusalNumber
edge_fault slots place i = option_or (option_map_or (jump_fault slots place) (distance_of i) None) (option_map_or (next_fault slots) (next_of place i) None)
