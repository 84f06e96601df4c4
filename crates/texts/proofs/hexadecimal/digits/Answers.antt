use Rattle.std.proofs.Common.{rules}
use Rattle.texts.proofs.hexadecimal.digits.Goals as goal

pub returns : goal.returns
returns c = search rules
