use Rattle.service_laws.proofs.Issuing.{of_its_ticket}
use Rattle.service_laws.proofs.laws.verdicts_are_of_the_program_at_the_ticket.Goals as goal

pub returns : goal.returns
returns g c = of_its_ticket g.A.Acceptance.accepts c.accepted_are_safe.ensures
