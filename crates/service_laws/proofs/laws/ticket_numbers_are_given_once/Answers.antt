use Rattle.service_laws.proofs.Endings.{given_once}
use Rattle.service_laws.proofs.Turns.{given_in_turn}
use Rattle.service_laws.proofs.laws.ticket_numbers_are_given_once.Goals as goal

pub returns-clause-since_an_opening : goal.returns-clause-since_an_opening
returns-clause-since_an_opening c = given_once

pub returns-clause-over_cuts : goal.returns-clause-over_cuts
returns-clause-over_cuts c = given_in_turn
