use Rattle.packed_outcomes.proofs.Spreading.{AreZeroTo}
use Rattle.packed_outcomes.proofs.kept.are_zero.Given as goal

abbrev pub invariant-loop-i : goal.invariant-loop-i
invariant-loop-i l = record {
  zeros : AreZeroTo l.words l.i l.bits;
}
