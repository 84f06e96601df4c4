use Rattle.std.proofs.Common.{rules}
use Rattle.http_connection.proofs.Lingering.{finished_by}
use Rattle.http_connection.proofs.connection.Connection.is_finished.Goals as goal

pub returns-then-matches : goal.returns-then-matches
returns-then-matches c = finished_by c.args.self.now.stage c.self.inside.text.items c.args.self.now.pending c.self.inside.sent c.len.result (search rules) (search rules) (search rules) (search rules)
