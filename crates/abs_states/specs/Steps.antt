-- Soundness of one step: what the machine does from a state that an abstract state describes.
use Rattle.std.specs.Prelude.{◌≡◌, ℕ, ◌≤◌, Bool, true, false, Option, Some, option_map, Result, Ok}
use Rattle.abs_domain.specs.declared.domain.Domain.{Ghosts}
use Rattle.abs_regs.specs.Steps.{HasWord}
use Rattle.abs_states.specs.declared.state.AbsState.{AbsState}
use Rattle.abs_states.specs.States.{IsKnown}
use Rattle.abs_states.specs.Transfers.{transfer_in}
use Rattle.bpf_profile.specs.declared.instruction.Instruction.{Instruction}
use Rattle.bpf_profile.specs.declared.instruction.Instruction.TheVariants as instruction
use Rattle.bpf_profile.specs.declared.machine.TrapReason.{TrapReason}
use Rattle.bpf_profile.specs.Flow.{next_of, distance_of}
use Rattle.bpf_profile.specs.Machine.{State, Effect, goes, answers, target_of}
use Rattle.bpf_profile.specs.Words.{IsWord}

-- immediates and offsets are words
abbrev pub HasWords : Instruction → Type 0
HasWords (instruction.Arithmetic operation width dst operand) = HasWord operand
HasWords (instruction.LoadImmediate dst n) = IsWord n
HasWords (instruction.Load size extension dst base distance) = IsWord distance
HasWords (instruction.Store size base distance operand) = IsWord distance × HasWord operand
HasWords (instruction.Branch comparison width left right distance) = HasWord right
HasWords i = Unit {0}

-- the slot at the end of an instruction's jump edge (true) or of its fall-through edge (false)
abbrev pub edge_of : ℕ → Instruction → Bool → Option ℕ
edge_of place i true = option_map (target_of place) (distance_of i)
edge_of place i false = next_of place i

-- the step ends the program, with an answer of at most 2
pub record Answers (effect : Result Effect TrapReason) : Type 0 where
  pub answer : ℕ
  pub answers : effect ≡ Ok (answers answer)
  pub small : answer ≤ 2

-- the step goes on along one of the two edges, to a state that the abstract state on that edge describes
pub record Goes {X : Type 0} (domain : Ghosts X) (context : ℕ) (place : ℕ) (i : Instruction) (a : AbsState X) (effect : Result Effect TrapReason) : Type 0 where
  pub next : State
  pub goes : effect ≡ Ok (goes next)
  pub taken : Bool
  pub edge : edge_of place i taken ≡ Some next.slot
  pub known : (after : AbsState X) → transfer_in domain context a taken i ≡ Ok after → IsKnown domain after next
