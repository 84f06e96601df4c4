use Rattle.service_profile.specs.FirstOpening.{first_opening}
use Rattle.service_profile.specs.Configured.{default_parts}
use Rattle.worked_examples.specs.Promises.{zero_program}
use Rattle.worked_examples.proofs.Exists.{zero_bytes, zero_verified, zero_opening}
use Rattle.worked_examples.proofs.openings.a_good_opening_exists.Goals as goal

pub returns : goal.returns
returns c = (first_opening default_parts zero_program, zero_opening, (zero_bytes, zero_verified))
