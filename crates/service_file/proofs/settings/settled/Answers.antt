use Rattle.std.proofs.Common.{rules}
use Rattle.service_file.proofs.settings.settled.Goals as goal

pub returns-clause-settled : goal.returns-clause-settled
returns-clause-settled c = search rules
