use Rattle.std.proofs.Common.{refl}
use Rattle.book.specs.Accepted.{IsSafeProgram}
use Rattle.worked_examples.specs.Promises.{zero_program, bare_program}
use Rattle.worked_examples.proofs.Exists.{zero_bytes, zero_verified}
use Rattle.worked_examples.proofs.Small.{install_brings}
use Rattle.worked_examples.proofs.promises.installs_bring_what_is_accepted.Goals as goal

pub returns-clause-brought : goal.returns-clause-brought
returns-clause-brought c = install_brings IsSafeProgram zero_program (c.accepted_are_safe.ensures zero_program (zero_bytes, zero_verified))

pub returns-clause-refused : goal.returns-clause-refused
returns-clause-refused c = λ brought. c.program_without_an_answer_is_not_safe.ensures (brought.installs_accepted bare_program refl).safe
