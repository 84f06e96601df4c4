use Rattle.std.proofs.Common.{rules}
use Rattle.breaker.proofs.machine.Breaker.return_permission.Goals as goal

pub returns : goal.returns
returns c = search rules
