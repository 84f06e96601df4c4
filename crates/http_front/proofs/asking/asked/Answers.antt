use Rattle.std.proofs.Common.{rules}
use Rattle.http_front.proofs.asking.asked.Goals as goal

pub returns-in_default-find-clause-asked : goal.returns-in_default-find-clause-asked
returns-in_default-find-clause-asked g c = search rules
