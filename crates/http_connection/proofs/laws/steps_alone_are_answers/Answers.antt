use Rattle.http_connection.proofs.Alone.{answered_alone}
use Rattle.http_connection.proofs.laws.steps_alone_are_answers.Goals as goal

pub returns : goal.returns
returns g c = answered_alone g.P.Responder.refusal g.P.Responder.responds g.C.Clock.ticks
