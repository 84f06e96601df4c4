use Rattle.std.proofs.Common.{rules}
use Rattle.server_output.proofs.listening.listen.Goals as goal

pub returns-clause-listening : goal.returns-clause-listening
returns-clause-listening g c = search rules
