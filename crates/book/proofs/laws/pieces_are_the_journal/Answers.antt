use Rattle.book.proofs.Pieces.{whole}
use Rattle.book.proofs.laws.pieces_are_the_journal.Goals as goal

pub returns : goal.returns
returns c = whole
