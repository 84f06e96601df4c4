use Rattle.std.proofs.Common.{rules}
use Rattle.http_front.proofs.bodies.program_asks.Goals as goal

pub returns-in_ok-program-in-Ok : goal.returns-in_ok-program-in-Ok
returns-in_ok-program-in-Ok c = search rules
