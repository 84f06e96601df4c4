use Rattle.book.proofs.Lawful.{notes_meant}
use Rattle.book.proofs.laws.notes_are_of_the_meaning.Goals as goal

pub returns : goal.returns
returns g c = notes_meant g.A.Acceptance.accepts c.accepted_are_safe.ensures
