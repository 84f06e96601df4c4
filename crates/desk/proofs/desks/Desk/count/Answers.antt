use Rattle.std.proofs.Common.{◌∙◌, length, ap, sym}
use Rattle.desk.specs.Desks.{DeskData}
use Rattle.desk.proofs.desks.Desk.count.Goals as goal

pub returns : goal.returns
returns g c = c.len.ensures ∙ (sym c.self.invariant.11 ∙ ap (λ (d : DeskData). length d.services) c.self.view_is)
