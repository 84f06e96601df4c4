use Rattle.std.proofs.Common.{rules}
use Rattle.service.proofs.asking.ask.Goals as goal

pub returns-in-Roll-clause-asked : goal.returns-in-Roll-clause-asked
returns-in-Roll-clause-asked g c = search rules

pub returns-in-Acquire-clause-asked : goal.returns-in-Acquire-clause-asked
returns-in-Acquire-clause-asked g c = search rules
