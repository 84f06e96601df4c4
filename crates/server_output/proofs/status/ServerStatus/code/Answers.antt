use Rattle.std.proofs.Common.{rules}
use Rattle.server_output.proofs.status.ServerStatus.code.Goals as goal

pub returns-in-Done : goal.returns-in-Done
returns-in-Done c = search rules
