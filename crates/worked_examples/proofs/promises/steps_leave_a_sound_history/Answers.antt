use Rattle.book.specs.Accepted.{IsSafeProgram}
use Rattle.book.specs.Verified.{IsVerifiedProgram}
use Rattle.service_profile.specs.Configured.{default_parts}
use Rattle.service_profile.specs.FirstOpening.{first_opening}
use Rattle.std.proofs.Common.{refl}
use Rattle.worked_examples.specs.Promises.{zero_program, steps_with}
use Rattle.worked_examples.proofs.Exists.{zero_bytes, zero_verified, zero_opening}
use Rattle.worked_examples.proofs.Small.{steps_are}
use Rattle.worked_examples.proofs.promises.steps_leave_a_sound_history.Goals as goal

pub returns-clause-steps : goal.returns-clause-steps
returns-clause-steps c = steps_are IsSafeProgram (c.installs_bring_what_is_accepted.ensures.brought.installs_accepted zero_program refl)

pub returns-clause-others : goal.returns-clause-others
returns-clause-others c = λ steps. c.installs_bring_what_is_accepted.ensures.refused steps.1.0.1.1

pub returns-clause-sound : goal.returns-clause-sound
returns-clause-sound c = λ given after course.
    (c.interleavings_are_legal.ensures (first_opening default_parts zero_program) (steps_with zero_program) given after zero_opening (zero_bytes, zero_verified) (steps_are IsVerifiedProgram (zero_bytes, zero_verified)) course).sound
