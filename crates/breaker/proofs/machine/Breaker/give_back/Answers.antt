use Rattle.std.proofs.Common.{rules}
use Rattle.breaker.proofs.machine.Breaker.give_back.Goals as goal

pub return_permission-requires : goal.return_permission-requires
return_permission-requires c = search rules

pub returns-then-period-self : goal.returns-then-period-self
returns-then-period-self c = search rules
