use Rattle.std.proofs.Common.{rules}
use Rattle.registry.proofs.ticket_map.least_of.Goals as goal

pub loop-one-preserved : goal.loop-one-preserved
loop-one-preserved c = search rules
