use Rattle.std.proofs.Common.{rules}
use Rattle.classifier_commands.proofs.judging.judge.Goals as goal

pub returns-in-Err-clause-unread : goal.returns-in-Err-clause-unread
returns-in-Err-clause-unread g c = search rules
