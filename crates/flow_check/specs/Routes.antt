-- What callers see of an accepted flow.
use Rattle.std.specs.Prelude.{◌≡◌, ℕ, ◌<◌, ◌≤◌, All, List, ◌++◌, slice_get, Some, option_and_then, option_map, option_to_list}
use Rattle.bpf_profile.specs.declared.slot.Slot.{Slot}
use Rattle.bpf_profile.specs.Limits.{most_slots}
use Rattle.bpf_profile.specs.Flow.{next_of, distance_of}
use Rattle.bpf_profile.specs.Machine.{target_of}
use Rattle.bpf_profile.specs.Meaning.{instruction_at}
use Rattle.flow_check.specs.declared.edges.Successors.{Successors}

-- the edges of each slot, as lists and by their kinds, and the budget
pub record Routes : Type 0 where
  pub edges : List (List ℕ)
  pub successors : List Successors
  pub budget : ℕ

-- the slots to which edges lead
abbrev pub successor_list : Successors → List ℕ
successor_list s = option_to_list s.next ++ option_to_list s.target

-- the slot behind the instruction at a place and the target of its jump; neither at a tail
abbrev pub successors_at : List Slot → ℕ → Successors
successors_at slots place = record {
  next = option_and_then (next_of place) (instruction_at slots place);
  target = option_and_then (λ i. option_map (target_of place) (distance_of i)) (instruction_at slots place);
}

-- slots and budget are those of a program of at most 4,096 slots
pub record AreFew (successors : List Successors) (budget : ℕ) : Type 0 where
  pub some_steps : 1 ≤ budget
  pub few_steps : budget ≤ most_slots
  pub few_slots : (place : ℕ) (s : Successors) → slice_get successors place ≡ Some s → All (λ to. to < most_slots) (successor_list s)
