use Rattle.std.proofs.Common.{rules}
use Rattle.service.proofs.asking.report_with.Goals as goal

pub returns-in-Ok-clause-reported : goal.returns-in-Ok-clause-reported
returns-in-Ok-clause-reported g c = search rules
