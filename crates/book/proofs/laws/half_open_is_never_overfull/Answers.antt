use Rattle.std.proofs.Common.{arith, ap}
use Rattle.service_profile.specs.Events.{Opening}
use Rattle.book.proofs.Applying.{same_opening}
use Rattle.book.proofs.Lawful.{service_sound}
use Rattle.book.proofs.laws.half_open_is_never_overfull.Goals as goal

pub returns : goal.returns
returns g c = λ history service half.
    omega (arith, (service_sound g.A.Acceptance.accepts c.accepted_are_safe.ensures history service).permissions half, ap (λ (o : Opening). o.config.permitted_number_of_calls_in_half_open_state) (same_opening history.opening history.lines history.rolled))
