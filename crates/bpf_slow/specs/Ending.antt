-- How a run of a program ends within a limit: its first answer or trap, or that it goes on.
use Rattle.std.specs.Prelude.{◌≡◌, ◌<◌, ◌≤◌, ℕ, List, Err}
use Rattle.bpf_profile.specs.declared.machine.TrapReason.{TrapReason}
use Rattle.bpf_profile.specs.declared.slot.Slot.{Slot}
use Rattle.bpf_profile.specs.Machine.{State}
use Rattle.bpf_profile.specs.Meaning.{step, entry, Reaches, Ends}
use Rattle.bpf_profile.specs.Outcomes.{Outcome}
use Rattle.bpf_slow.specs.declared.ending.End.{End}
use Rattle.bpf_slow.specs.declared.ending.End.TheVariants as end

-- one of the first steps, so many at most, traps for this reason, and it is the step at this slot
pub record TrapsWithin (size : ℕ) (slots : List Slot) (outcome : Outcome) (limit place : ℕ) (reason : TrapReason) : Type 0 where
  pub before : ℕ
  pub last : State
  pub within : before < limit
  pub reached : Reaches size slots outcome entry before last
  pub here : last.slot ≡ place
  pub trapped : step size slots outcome last ≡ Err reason

-- each of the first steps, so many, leads to a state
pub record GoesOn (size : ℕ) (slots : List Slot) (outcome : Outcome) (limit : ℕ) : Type 0 where
  pub last : State
  pub reached : Reaches size slots outcome entry limit last

-- the end within so many steps: an answer that comes by then, a trap that comes by then, or neither
abbrev pub IsEnd : ℕ → List Slot → Outcome → ℕ → End → Type 0
IsEnd size slots outcome limit (end.Done answer steps) = (steps ≤ limit) × Ends size slots outcome answer steps
IsEnd size slots outcome limit (end.Trap place reason) = TrapsWithin size slots outcome limit place reason
IsEnd size slots outcome limit end.OutOfSteps = GoesOn size slots outcome limit
