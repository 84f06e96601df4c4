use Rattle.book.proofs.Lawful.{places_kept}
use Rattle.book.proofs.laws.bulkhead_is_never_overfull.Goals as goal

pub returns : goal.returns
returns g c = places_kept g.A.Acceptance.accepts c.accepted_are_safe.ensures
