use Rattle.std.proofs.Common.{◌∙◌}
use Rattle.book.proofs.Versions.{held_count}
use Rattle.book.proofs.parts.Parts.version_count.Goals as goal

pub returns : goal.returns
returns c = λ held s stands. c.version_count.ensures.count ∙ held_count c.args.self.now.registry s stands.registered
