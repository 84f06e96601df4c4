-- Where control may go: edges, walks, and the budget.
use Rattle.std.specs.Prelude.{◌≡◌, ℕ, ◌+◌, ◌≤◌, List, [], ◌∷◌, ◌++◌, length, Contains, Option, Some, None, option_map, option_to_list}
use Rattle.std.specs.Option.{option_map_or}
use Rattle.bpf_profile.specs.declared.instruction.Instruction.{Instruction}
use Rattle.bpf_profile.specs.declared.instruction.Instruction.TheVariants as instruction
use Rattle.bpf_profile.specs.declared.slot.Slot.{Slot}
use Rattle.bpf_profile.specs.Machine.{target_of}
use Rattle.bpf_profile.specs.Meaning.{instruction_at}

-- the slot after the instruction, where control may go on there: two on behind a wide immediate
abbrev pub next_of : ℕ → Instruction → Option ℕ
next_of place instruction.Exit = None
next_of place (instruction.Jump width distance) = None
next_of place (instruction.LoadImmediate dst n) = Some (place + 2)
next_of place other = Some (place + 1)

abbrev pub distance_of : Instruction → Option ℕ
distance_of (instruction.Jump width distance) = Some distance
distance_of (instruction.Branch comparison width left right distance) = Some distance
distance_of other = None

abbrev pub edges_of : ℕ → Instruction → List ℕ
edges_of place i = option_to_list (next_of place i) ++ option_to_list (option_map (target_of place) (distance_of i))

-- the slots to which an edge leads
unfoldable pub successors : List Slot → ℕ → List ℕ
successors slots place = option_map_or (edges_of place) (instruction_at slots place) []

abbrev pub Edge : List Slot → ℕ → ℕ → Type 0
Edge slots from to = Contains (successors slots from) to

-- the rest of a walk from a slot
abbrev pub WalkFrom : List Slot → ℕ → List ℕ → Type 0
WalkFrom slots from [] = Unit {0}
WalkFrom slots from (to ∷ walk) = Edge slots from to × WalkFrom slots to walk

-- a walk is a list of slots that begins at slot 0, each joined to the next by an edge
abbrev pub IsWalk : List Slot → List ℕ → Type 0
IsWalk slots [] = ⊥
IsWalk slots (first ∷ walk) = (first ≡ 0) × WalkFrom slots first walk

-- the budget is the length of a longest walk
pub record IsBudget (slots : List Slot) (budget : ℕ) : Type 0 where
  pub walk : List ℕ
  pub walked : IsWalk slots walk
  pub reached : length walk ≡ budget
  pub longest : (other : List ℕ) → IsWalk slots other → length other ≤ budget
