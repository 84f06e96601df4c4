use Rattle.std.proofs.Common.{rules}
use Rattle.helpers.proofs.record.Record.copy_tag.Goals as goal

pub returns-clause-count : goal.returns-clause-count
returns-clause-count c = search rules
