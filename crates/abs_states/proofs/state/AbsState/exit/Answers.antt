use Rattle.std.proofs.Common.{rules}
use Rattle.abs_states.proofs.state.AbsState.exit.Goals as goal

pub returns-clause-ended : goal.returns-clause-ended
returns-clause-ended g c = search rules
