use Rattle.refusals.proofs.Numbers.{number_of-injective}
use Rattle.refusals.proofs.laws.numbers_are_distinct.Goals as goal

pub returns : goal.returns
returns c = number_of-injective
