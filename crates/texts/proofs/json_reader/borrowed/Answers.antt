use Rattle.std.proofs.Common.{rules}
use Rattle.texts.proofs.json_reader.borrowed.Goals as goal

pub returns-in-Err : goal.returns-in-Err
returns-in-Err c = search rules

pub returns-then-is_some : goal.returns-then-is_some
returns-then-is_some c = search rules

pub returns : goal.returns
returns c = search rules
