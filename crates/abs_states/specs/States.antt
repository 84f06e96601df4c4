-- Abstract states, over any domain: what the analysis knows of registers and stack before an instruction.
use Rattle.abs_domain.specs.declared.domain.Domain.{Ghosts}
use Rattle.abs_regs.specs.Steps.{AreAs}
use Rattle.abs_regs.specs.Values.{entry_values, joined_values}
use Rattle.abs_states.specs.declared.state.AbsState.{AbsState}
use Rattle.bpf_profile.specs.Machine.{State}
use Rattle.stack_track.specs.Cells.{entry_cells, joined_cells}
use Rattle.stack_track.specs.Steps.{AreCells}

-- an abstract state describes a state of the machine: its registers and its stack
pub record IsKnown {X : Type 0} (domain : Ghosts X) (a : AbsState X) (s : State) : Type 0 where
  pub registers : AreAs domain a.registers s.registers
  pub stack : AreCells domain a.stack s.stack

abbrev pub entry_state : {X : Type 0} → Ghosts X → AbsState X
entry_state domain = record { registers = entry_values domain; stack = entry_cells }

-- the join of two abstract states, which describes all that either describes
abbrev pub joined_state : {X : Type 0} → Ghosts X → AbsState X → AbsState X → AbsState X
joined_state domain a b = record { registers = joined_values domain a.registers b.registers; stack = joined_cells domain a.stack b.stack }
