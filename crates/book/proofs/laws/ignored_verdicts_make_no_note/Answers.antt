use Rattle.book.proofs.Lawful.{ignored_unnoted}
use Rattle.book.proofs.laws.ignored_verdicts_make_no_note.Goals as goal

pub returns : goal.returns
returns g c = ignored_unnoted g.A.Acceptance.accepts c.accepted_are_safe.ensures
