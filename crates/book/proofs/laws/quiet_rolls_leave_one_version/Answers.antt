use Rattle.book.proofs.Roomy.{one_version_left}
use Rattle.book.proofs.laws.quiet_rolls_leave_one_version.Goals as goal

pub returns : goal.returns
returns c = one_version_left
