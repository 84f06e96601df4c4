use Rattle.service_laws.proofs.Orders.{in_order, not_before_opening}
use Rattle.service_laws.proofs.laws.moments_never_go_back.Goals as goal

pub returns-clause-lines : goal.returns-clause-lines
returns-clause-lines c = in_order

pub returns-clause-opening : goal.returns-clause-opening
returns-clause-opening c = not_before_opening
