use Rattle.std.proofs.Common.{rules}
use Rattle.http_connection.proofs.Lingering.{reads_on}
use Rattle.http_connection.proofs.sessions.Session.read_on.Goals as goal

pub returns-clause-read : goal.returns-clause-read
returns-clause-read g c = reads_on c.take.result (g.T.Stream.remaining c.args.self.now.wire.inner) (g.T.Stream.remaining c.take.new.self.inner) c.take.new.buf c.args.self.now.connection (search rules) (search rules)
