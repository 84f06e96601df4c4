use Rattle.book.proofs.Lawful.{spent_not_open}
use Rattle.book.proofs.laws.spent_tickets_are_not_open.Goals as goal

pub returns : goal.returns
returns c = spent_not_open
