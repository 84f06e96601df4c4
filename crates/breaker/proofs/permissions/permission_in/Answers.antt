use Rattle.std.proofs.Common.{rules}
use Rattle.breaker.proofs.permissions.permission_in.Goals as goal

pub returns-in-ForcedOpen : goal.returns-in-ForcedOpen
returns-in-ForcedOpen c = search rules
