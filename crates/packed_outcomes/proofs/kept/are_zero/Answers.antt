use Rattle.std.proofs.Common.{get_or, refl}
use Rattle.packed_outcomes.proofs.Spreading.{zero_more}
use Rattle.packed_outcomes.proofs.kept.are_zero.Goals as goal

pub loop-i-preserved : goal.loop-i-preserved
loop-i-preserved c = record {
  zeros = zero_more c.args.words.now c.loop-i.i c.loop-i.bits (get_or c.args.words.now c.loop-i.i 0) c.loop-i-test.true refl c.loop-i.invariant.zeros;
}
