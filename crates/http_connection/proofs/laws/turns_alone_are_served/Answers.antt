use Rattle.http_connection.proofs.Served.{served}
use Rattle.http_connection.proofs.laws.turns_alone_are_served.Goals as goal

pub returns : goal.returns
returns g c ended connection had has state after clock later held holds reads reads_after writes writes_after lived turned =
    served g.P.Responder.refusal g.P.Responder.responds g.C.Clock.ticks ended connection had has state after clock later held holds reads reads_after writes writes_after lived turned
