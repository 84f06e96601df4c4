use Rattle.book.proofs.Rolled.{rolled_legal}
use Rattle.book.proofs.laws.rolls_leave_histories_legal.Goals as goal

pub returns : goal.returns
returns c = rolled_legal
