use Rattle.std.proofs.Common.{inr}
use Rattle.classifier_commands.proofs.explaining.notify_reason.Goals as goal

pub returns-in-Some-clause-explained : goal.returns-in-Some-clause-explained
returns-in-Some-clause-explained g c = inr (_, c.send-sent.ensures.part)
