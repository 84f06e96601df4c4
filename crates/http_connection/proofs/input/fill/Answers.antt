use Rattle.std.proofs.Common.{rules}
use Rattle.http_connection.proofs.input.fill.Goals as goal

pub returns-else-is_err-2-clause-most : goal.returns-else-is_err-2-clause-most
returns-else-is_err-2-clause-most g c = search rules
