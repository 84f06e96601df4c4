use Rattle.std.proofs.Common.{◌∙◌}
use Rattle.book.proofs.Settled.{looked_same}
use Rattle.book.proofs.parts.Parts.look.Goals as goal

pub returns : goal.returns
returns c = λ held s stands. c.look.ensures.program ∙ looked_same c.args.self.now.registry s c.args.ticket stands.registered
