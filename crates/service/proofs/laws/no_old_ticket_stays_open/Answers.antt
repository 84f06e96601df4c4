use Rattle.service.proofs.Aging.{none_old}
use Rattle.service.proofs.laws.no_old_ticket_stays_open.Goals as goal

pub returns : goal.returns
returns c = none_old
