use Rattle.std.proofs.Common.{◌≤◌, length, arith}
use Rattle.stack_track.specs.Cells.{joined_cell}
use Rattle.abs_regs.proofs.Joins.{joined_none, joined_more}
use Rattle.stack_track.proofs.Held.{joined_whole}
use Rattle.stack_track.proofs.stack.join_cells.Goals as goal

pub loop-i-init : goal.loop-i-init
loop-i-init g c = joined_none (joined_cell g.D.Domain) c.args.cells.now c.args.others.now

pub loop-i-preserved : goal.loop-i-preserved
loop-i-preserved g c =
    let long = c.requires in
    let within = c.loop-i-test.true in
    joined_more (joined_cell g.D.Domain) c.args.cells.now c.args.others.now c.loop-i.cells c.loop-i.i c.index-cells-i.result c.index-others-i.result c.join.result c.loop-i.invariant
    (omega (arith, within)) (omega (arith, long, within)) (cc)

pub returns : goal.returns
returns g c =
    let all : length c.args.cells.now ≤ c.loop-i.i = omega arith in
    joined_whole (joined_cell g.D.Domain) c.args.cells.now c.args.others.now c.loop-i.cells c.loop-i.i c.loop-i.invariant c.requires all
