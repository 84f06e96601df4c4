use Rattle.std.proofs.Common.{rules}
use Rattle.abs_states.proofs.state.AbsState.front_byte.Goals as goal

pub returns-then-bounds-context_size : goal.returns-then-bounds-context_size
returns-then-bounds-context_size g c = search rules
