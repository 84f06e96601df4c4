use Rattle.abs_regs.proofs.Joins.{JoinedTo}
use Rattle.stack_track.specs.Cells.{joined_cell}
use Rattle.stack_track.proofs.stack.join_cells.Given as goal

abbrev pub invariant-loop-i : goal.invariant-loop-i
invariant-loop-i g l = JoinedTo (joined_cell g.D.Domain) l.initial.cells l.others l.cells l.i
