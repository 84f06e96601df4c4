use Rattle.std.proofs.Common.{rules}
use Rattle.registry.proofs.holdings.Registry.is_open.Goals as goal

pub returns : goal.returns
returns c = search rules
