use Rattle.std.proofs.Common.{rules}
use Rattle.http_front.proofs.message.add_allow.Goals as goal

pub returns-in-Some : goal.returns-in-Some
returns-in-Some c = search rules
