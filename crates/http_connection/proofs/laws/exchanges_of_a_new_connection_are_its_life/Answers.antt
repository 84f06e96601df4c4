use Rattle.http_connection.proofs.Alone.{lived}
use Rattle.http_connection.proofs.laws.exchanges_of_a_new_connection_are_its_life.Goals as goal

pub returns : goal.returns
returns g c = lived g.P.Responder.refusal g.P.Responder.responds g.C.Clock.ticks
