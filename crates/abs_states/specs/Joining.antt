-- What is known at the end of an edge once the state on it came in.
use Rattle.std.specs.Prelude.{Result, Ok}
use Rattle.refusals.specs.declared.RefusalNumber.{RefusalNumber}
use Rattle.abs_domain.specs.declared.domain.Domain.{Ghosts}
use Rattle.abs_regs.specs.Transfers.{◌>>=◌}
use Rattle.abs_states.specs.declared.state.AbsState.{AbsState}
use Rattle.abs_states.specs.States.{joined_state}

-- the state on an edge, joined with the one that is known at its end already
abbrev pub joined_with : {X : Type 0} → Ghosts X → AbsState X → Result (AbsState X) RefusalNumber → Result (AbsState X) RefusalNumber
joined_with domain before r = r >>= (λ s. Ok (joined_state domain before s))
