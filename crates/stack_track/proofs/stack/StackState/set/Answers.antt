use Rattle.std.proofs.Common.{◌≡◌, ◌<◌, ◌-◌, suc, List, length, arith, ap, ◌∙◌}
use Rattle.std.specs.Prelude.{slice_set}
use Rattle.stack_track.specs.declared.cell.Cell.{Cell}
use Rattle.stack_track.specs.Held.{spread}
use Rattle.stack_track.proofs.Held.{spread_same, spread_set}
use Rattle.stack_track.proofs.stack.StackState.set.Goals as goal

pub returns : goal.returns
returns g c =
    let number = c.args.number in
    let held = c.hold.new.held.items in
    let place : 63 - number ≡ 64 - suc number = omega arith in
    let inside : 64 - suc number < length held = (let inside = c.hold.ensures.held in omega (arith, inside, place)) in
    ap (λ n. spread 64 (slice_set held n c.args.cell)) place
    ∙ (spread_set 64 number held c.args.cell c.requires inside
    ∙ ap (λ (cells : List (Cell g.row.D.Denot)). slice_set cells number c.args.cell) (spread_same 64 held c.self.inside.held.items c.hold.ensures.same ∙ c.self.view_is))
