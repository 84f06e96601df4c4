use Rattle.std.proofs.Common.{rules}
use Rattle.http_connection.proofs.Writing.{some_left}
use Rattle.http_connection.proofs.connection.Connection.phase.Goals as goal

pub returns-then-self-len : goal.returns-then-self-len
returns-then-self-len c = some_left c.self.inside.text.items c.args.self.now.pending c.self.inside.sent (search rules) (search rules)
