use Rattle.std.proofs.Common.{rules}
use Rattle.breaker.proofs.rates.reaches.Goals as goal

pub returns : goal.returns
returns c = search rules
