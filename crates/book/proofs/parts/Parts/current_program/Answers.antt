use Rattle.std.proofs.Common.{ap, sym, ◌∙◌}
use Rattle.service_profile.specs.Machine.{current_version, program_from}
use Rattle.book.proofs.Versions.{current_same, current_held, program_same}
use Rattle.book.proofs.parts.Parts.current_program.Goals as goal

pub returns : goal.returns
returns c = λ held s stands.
    let r = c.args.self.now.registry in
    let current = current_same r s stands.registered in
    sym c.current_program.ensures
    ∙ ap (program_from r.first_version r.programs) current
    ∙ program_same r s (current_version s) stands.registered (current_held s stands.registered.some)
