use Rattle.std.proofs.Common.{rules}
use Rattle.abs_states.proofs.state.AbsState.join.Goals as goal

pub returns : goal.returns
returns g c = search rules
