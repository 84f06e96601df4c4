use Rattle.std.proofs.Common.{rules}
use Rattle.helpers.proofs.record.Record.front_byte.Goals as goal

pub returns : goal.returns
returns c = search rules
