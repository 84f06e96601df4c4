use Rattle.book.proofs.Lawful.{service_sound}
use Rattle.book.proofs.laws.verdicts_are_the_meaning.Goals as goal

pub returns : goal.returns
returns g c = λ history service. (service_sound g.A.Acceptance.accepts c.accepted_are_safe.ensures history service).verdicts
