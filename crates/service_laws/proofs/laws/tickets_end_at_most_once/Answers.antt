use Rattle.service_laws.proofs.Endings.{end_once}
use Rattle.service_laws.proofs.Turns.{ended_in_turn}
use Rattle.service_laws.proofs.laws.tickets_end_at_most_once.Goals as goal

pub returns-clause-since_an_opening : goal.returns-clause-since_an_opening
returns-clause-since_an_opening c = end_once

pub returns-clause-over_cuts : goal.returns-clause-over_cuts
returns-clause-over_cuts c = ended_in_turn
