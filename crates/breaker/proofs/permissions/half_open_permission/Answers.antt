use Rattle.std.proofs.Common.{rules}
use Rattle.breaker.proofs.permissions.half_open_permission.Goals as goal

pub returns : goal.returns
returns c = search rules
