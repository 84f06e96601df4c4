use Rattle.std.proofs.Common.{rules}
use Rattle.abs_states.proofs.state.AbsState.fact.Goals as goal

pub returns-then-bounds : goal.returns-then-bounds
returns-then-bounds g c = search rules
