use Rattle.std.proofs.Common.{length}
use Rattle.packed_outcomes.proofs.Spreading.{IsSpreadTo}
use Rattle.packed_outcomes.proofs.spread.spread.Given as goal

abbrev pub invariant-loop-i : goal.invariant-loop-i
invariant-loop-i l = record {
  spread : IsSpreadTo (length l.fn.words) l.marks l.kept l.words l.left l.next l.i;
}
