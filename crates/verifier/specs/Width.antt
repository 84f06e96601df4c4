-- The width of a program: how many states a pass over its slots has to hold at most.
use Rattle.std.specs.Prelude.{◌≡◌, ℕ, suc, ◌-◌, ◌≤◌, Bool, List, length, drop, IsSome}
use Rattle.std.specs.List.{count_by, range_with_len}
use Rattle.bpf_profile.specs.declared.slot.Slot.{Slot}
use Rattle.bpf_profile.specs.FlowFaults.{is_entered_from}
use Rattle.bpf_profile.specs.Meaning.{instruction_at}

-- how many slots are awaited after a slot: those above it to which an edge leads from a slot at or below it
abbrev pub awaited_after : List Slot → ℕ → ℕ
awaited_after slots place = count_by (λ to. is_entered_from slots to (suc place)) (range_with_len (suc place) (length slots - suc place))

-- the width is the most that are awaited after an instruction
pub record IsWidth (slots : List Slot) (width : ℕ) : Type 0 where
  pub most : (place : ℕ) → IsSome (instruction_at slots place) → awaited_after slots place ≤ width
  pub widest : ℕ
  pub instruction : IsSome (instruction_at slots widest)
  pub reached : awaited_after slots widest ≡ width

-- how many marks there are from a place on
abbrev pub count_from : ℕ → List Bool → ℕ
count_from place marks = count_by (λ mark. mark) (drop place marks)
