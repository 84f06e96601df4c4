-- Soundness of the register steps: what the machine makes of registers that abstract values describe.
use Rattle.std.specs.Prelude.{◌≡◌, ℕ, ◌+◌, ◌≤◌, Bool, if◌then◌else◌, List, length, slice_index_or, Result, Ok}
use Rattle.abs_domain.specs.declared.domain.Domain.{Ghosts}
use Rattle.abs_regs.specs.declared.address.Address.{Address}
use Rattle.abs_regs.specs.declared.address.Address.TheVariants as address
use Rattle.abs_regs.specs.declared.value.AbsVal.{AbsVal}
use Rattle.abs_regs.specs.Transfers.{branched_in}
use Rattle.abs_regs.specs.Values.{IsAs, value_in}
use Rattle.bpf_profile.specs.declared.instruction.Comparison.{Comparison}
use Rattle.bpf_profile.specs.declared.instruction.Operand.{Operand}
use Rattle.bpf_profile.specs.declared.instruction.Operand.TheVariants as operand
use Rattle.bpf_profile.specs.declared.instruction.Width.{Width}
use Rattle.bpf_profile.specs.declared.machine.Region.TheVariants as region
use Rattle.bpf_profile.specs.declared.machine.TrapReason.{TrapReason}
use Rattle.bpf_profile.specs.declared.machine.Value.{Value}
use Rattle.bpf_profile.specs.declared.machine.Value.TheVariants as value
use Rattle.bpf_profile.specs.Machine.{State, Address as Place, branched, jumps, target_of}
use Rattle.bpf_profile.specs.Words.{IsWord}

-- abstract values describe the machine's registers, one by one
pub record AreAs {X : Type 0} (domain : Ghosts X) (registers : List (AbsVal X)) (values : List Value) : Type 0 where
  pub long : length registers ≤ length values
  pub each : (r : ℕ) → IsAs domain (value_in registers r) (slice_index_or values r value.Unset)

-- a result of the machine that is no trap, and that the abstract value describes
abbrev pub Gives : {X : Type 0} → Ghosts X → AbsVal X → Result Value TrapReason → Type 0
Gives domain a r = (v : Value) × (r ≡ Ok v) × IsAs domain a v

-- the immediate of an operand is a word
abbrev pub HasWord : Operand → Type 0
HasWord (operand.Register r) = Unit {0}
HasWord (operand.Immediate n) = IsWord n

-- an abstract address describes an address of the machine
abbrev pub IsAt : {X : Type 0} → Ghosts X → Address X → Place → Type 0
IsAt domain (address.Stack offset) at = at ≡ record { region = region.Stack; offset = offset }
IsAt domain (address.Context a) at = (offset : ℕ) × (at ≡ record { region = region.Context; offset = offset }) × domain.contains a offset

-- a conditional jump of the machine doesn't trap; it goes along the edge that its comparison says, and the refined abstract values of that edge describe the registers
pub record Branches {X : Type 0} (domain : Ghosts X) (s : State) (registers : List (AbsVal X)) (comparison : Comparison) (width : Width) (left : ℕ) (right : Operand) (distance : ℕ) : Type 0 where
  pub holds : Bool
  pub goes : branched s comparison width left right distance ≡ Ok (jumps s (if holds then target_of s.slot distance else s.slot + 1))
  pub follows : (after : List (AbsVal X)) → branched_in domain comparison width holds registers left right ≡ Ok after → AreAs domain after s.registers
