use Rattle.std.proofs.Common.{rules}
use Rattle.http_connection.proofs.input.turned_by.Goals as goal

pub returns-in-Nothing : goal.returns-in-Nothing
returns-in-Nothing c = search rules
