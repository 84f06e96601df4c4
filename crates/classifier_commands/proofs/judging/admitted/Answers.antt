use Rattle.std.proofs.Common.{rules}
use Rattle.classifier_commands.proofs.judging.admitted.Goals as goal

pub returns-in_err-verify-clause-err : goal.returns-in_err-verify-clause-err
returns-in_err-verify-clause-err c = search rules

pub returns-clause-ok : goal.returns-clause-ok
returns-clause-ok c = search rules
