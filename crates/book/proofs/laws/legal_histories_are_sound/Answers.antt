use Rattle.book.proofs.Lawful.{service_sound}
use Rattle.book.proofs.laws.legal_histories_are_sound.Goals as goal

pub returns : goal.returns
returns g c = service_sound g.A.Acceptance.accepts c.accepted_are_safe.ensures
