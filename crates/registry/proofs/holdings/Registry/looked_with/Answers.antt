use Rattle.std.proofs.Common.{rules}
use Rattle.registry.proofs.holdings.Registry.looked_with.Goals as goal

pub returns-in-Some-clause-program : goal.returns-in-Some-clause-program
returns-in-Some-clause-program c = search rules

pub returns-in-None-clause-program : goal.returns-in-None-clause-program
returns-in-None-clause-program c = search rules
