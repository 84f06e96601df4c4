use Rattle.std.proofs.Common.{rules}
use Rattle.helpers.proofs.record.Record.from_beginning.Goals as goal

pub returns : goal.returns
returns c = search rules
