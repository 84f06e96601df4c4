use Rattle.std.proofs.Common.{◌∙◌}
use Rattle.book.proofs.Versions.{current_same}
use Rattle.book.proofs.parts.Parts.current_version.Goals as goal

pub returns : goal.returns
returns c = λ held s stands. c.current_version.ensures ∙ current_same c.args.self.now.registry s stands.registered
