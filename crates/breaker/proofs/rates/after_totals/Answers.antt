use Rattle.std.proofs.Common.{rules}
use Rattle.breaker.proofs.rates.after_totals.Goals as goal

pub returns-then-either_reaches-2 : goal.returns-then-either_reaches-2
returns-then-either_reaches-2 c = search rules

pub returns-else-either_reaches-2 : goal.returns-else-either_reaches-2
returns-else-either_reaches-2 c = search rules
