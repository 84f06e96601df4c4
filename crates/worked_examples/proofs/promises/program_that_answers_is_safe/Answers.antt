use Rattle.worked_examples.specs.Promises.{zero_program}
use Rattle.worked_examples.proofs.Exists.{zero_bytes, zero_verified}
use Rattle.worked_examples.proofs.promises.program_that_answers_is_safe.Goals as goal

pub returns : goal.returns
returns c = (c.accepted_are_safe.ensures zero_program (zero_bytes, zero_verified)).safe
