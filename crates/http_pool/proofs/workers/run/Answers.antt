use Rattle.std.proofs.Common.{rules}
use Rattle.http_pool.proofs.workers.run.Goals as goal

pub returns-clause-ended : goal.returns-clause-ended
returns-clause-ended g c = search rules

pub returns-clause-failed : goal.returns-clause-failed
returns-clause-failed g c = search rules
