use Rattle.std.proofs.Common.{rules}
use Rattle.registry.proofs.holdings.Registry.install.Goals as goal

pub hold-requires-clause-few : goal.hold-requires-clause-few
hold-requires-clause-few c = search rules

pub returns-in-Ok-clause-full : goal.returns-in-Ok-clause-full
returns-in-Ok-clause-full c = search rules

pub returns-in-Err-clause-full : goal.returns-in-Err-clause-full
returns-in-Err-clause-full c = search rules
