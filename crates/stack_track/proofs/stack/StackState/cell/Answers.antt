use Rattle.std.proofs.Common.{◌≡◌, ◌-◌, suc, List, arith, sym, ap, ◌∙◌}
use Rattle.stack_track.specs.declared.cell.Cell.{Cell}
use Rattle.stack_track.specs.declared.cell.Cell.TheVariants as cell
use Rattle.stack_track.specs.Cells.{cell_in}
use Rattle.stack_track.proofs.Held.{spread_at}
use Rattle.stack_track.proofs.stack.StackState.cell.Goals as goal

pub returns : goal.returns
returns g c =
    let number = c.args.number in
    let held = c.self.inside.held.items in
    let place : 63 - number ≡ 64 - suc number = omega arith in
    c.held_at.ensures
    ∙ (ap (λ (cells : List (Cell g.row.D.Denot)). cell_in cells (63 - number)) c.deref.ensures.value
    ∙ (ap (cell_in held) place
    ∙ (sym (spread_at 64 number held (cell.Bytes 0) c.requires)
    ∙ ap (λ (cells : List (Cell g.row.D.Denot)). cell_in cells number) c.self.view_is)))
