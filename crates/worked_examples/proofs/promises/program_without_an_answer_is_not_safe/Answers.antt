use Rattle.worked_examples.proofs.Small.{bare_is_not_safe}
use Rattle.worked_examples.proofs.promises.program_without_an_answer_is_not_safe.Goals as goal

pub returns : goal.returns
returns c = bare_is_not_safe
