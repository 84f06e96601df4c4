use Rattle.http_connection.proofs.Alone.{gone_on}
use Rattle.http_connection.proofs.Chains.{goes_on}
use Rattle.http_connection.proofs.laws.turns_are_one_exchange.Goals as goal

pub returns-clause-bytes : goal.returns-clause-bytes
returns-clause-bytes g c refusal from between to more again one two text next = goes_on refusal from.stage between.stage to.stage from.unread between.unread to.unread more again one two text next

pub returns-clause-gone : goal.returns-clause-gone
returns-clause-gone g c = gone_on g.P.Responder.refusal g.P.Responder.responds g.C.Clock.ticks
