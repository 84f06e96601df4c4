use Rattle.std.proofs.Common.{rules}
use Rattle.breaker.proofs.permissions.has_overstayed.Goals as goal

pub returns-then-is_half_open : goal.returns-then-is_half_open
returns-then-is_half_open c = search rules

pub returns-else-is_half_open : goal.returns-else-is_half_open
returns-else-is_half_open c = search rules
