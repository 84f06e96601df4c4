use Rattle.abs_regs.proofs.Joins.{JoinedTo}
use Rattle.abs_regs.specs.Values.{joined_value}
use Rattle.abs_regs.proofs.registers.join_values.Given as goal

abbrev pub invariant-loop-i : goal.invariant-loop-i
invariant-loop-i g l = JoinedTo (joined_value g.D.Domain) l.initial.values l.others l.values l.i
