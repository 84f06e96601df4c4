use Rattle.std.proofs.Common.{◌≡◌, List, length, arith, ap, ◌∙◌}
use Rattle.std.proofs.lemmas.List.{with_items_is}
use Rattle.std.specs.Prelude.{take}
use Rattle.stack_track.specs.declared.cell.Cell.{Cell}
use Rattle.stack_track.specs.Cells.{joined_cells}
use Rattle.stack_track.specs.Held.{spread}
use Rattle.stack_track.proofs.Held.{spread_join}
use Rattle.stack_track.proofs.stack.StackState.join.Goals as goal

pub returns : goal.returns
returns g c =
    let one = c.self.inside.held.items in
    let other = c.other.inside.held.items in
    let short = c.truncate.new.self.items in
    let many : c.len.result ≡ length other = (let long = c.other.inside.held.ok.0 in let len = c.len.ensures in omega (arith, long, len)) in
    ap (spread 64) (with_items_is c.truncate.new.self c.join_cells.new.cells (c.join_cells.auto.cells ∙ c.deref_mut.ensures.len))
    ∙ (spread_join g.D.Domain 64 one other short c.join_cells.new.cells
    (c.truncate.ensures.items ∙ ap (λ n. take n one) many)
    (c.join_cells.ensures
    ∙ (ap (λ (cells : List (Cell g.row.D.Denot)). joined_cells g.D.Domain cells c.deref.result.now) c.deref_mut.ensures.value
    ∙ ap (joined_cells g.D.Domain short) c.deref.ensures.value))
    ∙ (ap (λ (cells : List (Cell g.row.D.Denot)). joined_cells g.D.Domain cells (spread 64 other)) c.self.view_is
    ∙ ap (joined_cells g.D.Domain c.args.self.now) c.other.view_is))
