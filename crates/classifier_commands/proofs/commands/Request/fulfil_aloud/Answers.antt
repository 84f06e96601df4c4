use Rattle.std.proofs.Common.{rules}
use Rattle.classifier_commands.proofs.commands.Request.fulfil_aloud.Goals as goal

pub returns-then-eq-clause-quiet : goal.returns-then-eq-clause-quiet
returns-then-eq-clause-quiet g c = search rules
