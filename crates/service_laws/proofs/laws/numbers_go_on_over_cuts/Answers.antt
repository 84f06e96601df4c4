use Rattle.service_laws.proofs.Orders.{numbered}
use Rattle.service_laws.proofs.laws.numbers_go_on_over_cuts.Goals as goal

pub returns : goal.returns
returns c = numbered
