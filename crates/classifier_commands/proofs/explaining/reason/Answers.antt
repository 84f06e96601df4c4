use Rattle.std.proofs.Common.{rules}
use Rattle.classifier_commands.proofs.explaining.reason.Goals as goal

pub returns : goal.returns
returns c = search rules
