-- What a verified program promises.
use Rattle.std.specs.Prelude.{ℕ, ◌≤◌, List}
use Rattle.bpf_profile.specs.declared.slot.Slot.{Slot}
use Rattle.bpf_profile.specs.Flow.{IsBudget}
use Rattle.bpf_profile.specs.Meaning.{Ends}
use Rattle.bpf_profile.specs.Outcomes.{Outcome, IsOutcome}

-- on every outcome's record the program ends within its budget, with an answer of at most 2: so no step of it traps
pub record IsSafe (size : ℕ) (slots : List Slot) (budget : ℕ) : Type 0 where
  pub budgeted : IsBudget slots budget
  pub ends : (outcome : Outcome) → IsOutcome size outcome → (answer : ℕ) × (steps : ℕ) × (answer ≤ 2) × (steps ≤ budget) × Ends size slots outcome answer steps
