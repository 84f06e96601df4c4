use Rattle.book.proofs.Lawful.{cut_well}
use Rattle.book.proofs.laws.cuts_leave_good_openings.Goals as goal

pub returns : goal.returns
returns g c = cut_well g.A.Acceptance.accepts c.accepted_are_safe.ensures
