use Rattle.std.proofs.Common.{◌∙◌}
use Rattle.book.proofs.Versions.{next_same}
use Rattle.book.proofs.parts.Parts.next_version.Goals as goal

pub returns : goal.returns
returns c = λ held s stands. c.next_version.ensures ∙ next_same c.args.self.now.registry s stands.registered
