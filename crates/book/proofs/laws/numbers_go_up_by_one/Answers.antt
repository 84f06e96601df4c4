use Rattle.book.proofs.Lawful.{numbers_kept}
use Rattle.book.proofs.laws.numbers_go_up_by_one.Goals as goal

pub returns : goal.returns
returns c = numbers_kept
