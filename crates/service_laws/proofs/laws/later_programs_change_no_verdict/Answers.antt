use Rattle.service_laws.proofs.Agreeing.{later_ignored}
use Rattle.service_laws.proofs.laws.later_programs_change_no_verdict.Goals as goal

pub returns : goal.returns
returns g c = later_ignored g.A.Acceptance.accepts c.accepted_are_safe.ensures
