use Rattle.std.proofs.Common.{ap, ◌∙◌}
use Rattle.stack_track.specs.Held.{spread}
use Rattle.stack_track.proofs.Held.{spread_none}
use Rattle.stack_track.proofs.stack.StackState.entry.Goals as goal

pub returns : goal.returns
returns g c = ap (spread 64) c.in_ok-with_capacity.ensures.items ∙ spread_none 64
