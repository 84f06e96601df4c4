use Rattle.bpf_profile.specs.Programs.{VerifiedProgram}
use Rattle.service_profile.specs.Histories.{past_of, programs_of}
use Rattle.book.specs.Accepted.{IsSafeProgram}
use Rattle.book.proofs.Lawful.{service_sound}
use Rattle.book.proofs.Lists.{all_weaken}
use Rattle.book.proofs.laws.installed_programs_are_safe.Goals as goal

pub returns : goal.returns
returns g c = λ history service.
    let accepts : VerifiedProgram → Type 0 = g.A.Acceptance.accepts in
    let safely = c.accepted_are_safe.ensures in
    all_weaken accepts (λ program. accepts program × IsSafeProgram program) (λ program good. (good, safely program good)) (programs_of (past_of history)) (service_sound accepts safely history service).programs
