use Rattle.std.proofs.Common.{◌∙◌}
use Rattle.book.proofs.Versions.{program_same}
use Rattle.book.proofs.parts.Parts.program.Goals as goal

pub returns : goal.returns
returns c = λ held s stands le. c.program.ensures ∙ program_same c.args.self.now.registry s c.args.version stands.registered le
