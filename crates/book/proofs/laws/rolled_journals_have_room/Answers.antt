use Rattle.book.proofs.Roomy.{rolled_roomy}
use Rattle.book.proofs.laws.rolled_journals_have_room.Goals as goal

pub returns : goal.returns
returns c = rolled_roomy
