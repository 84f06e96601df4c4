use Rattle.std.proofs.Common.{rules}
use Rattle.breaker.proofs.rates.minimum_in_window.Goals as goal

pub returns-then-is_count_based : goal.returns-then-is_count_based
returns-then-is_count_based c = search rules
