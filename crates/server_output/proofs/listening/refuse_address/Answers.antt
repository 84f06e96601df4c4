use Rattle.std.proofs.Common.{rules}
use Rattle.server_output.proofs.listening.refuse_address.Goals as goal

pub returns-in-Ok-clause-refused : goal.returns-in-Ok-clause-refused
returns-in-Ok-clause-refused g c = search rules
