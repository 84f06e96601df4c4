use Rattle.std.proofs.Common.{rules}
use Rattle.abs_states.proofs.state.AbsState.join_branch.Goals as goal

pub returns-clause-joined : goal.returns-clause-joined
returns-clause-joined g c = search rules
