use Rattle.std.proofs.Common.{rules}
use Rattle.service.proofs.asking.install.Goals as goal

pub returns-in-Err-clause-installed : goal.returns-in-Err-clause-installed
returns-in-Err-clause-installed g c = search rules

pub returns-in-Ok-new-clause-installed : goal.returns-in-Ok-new-clause-installed
returns-in-Ok-new-clause-installed g c = search rules
