use Rattle.std.proofs.Common.{length, arith}
use Rattle.packed_outcomes.proofs.Spreading.{at_start, turn_zero, turn_some, no_more, at_end}
use Rattle.packed_outcomes.proofs.spread.spread.Goals.{then-left-ne0, else-left-ne0}
use Rattle.packed_outcomes.proofs.spread.spread.Goals as goal

pub loop-i-init : goal.loop-i-init
loop-i-init c = record { spread = at_start (length c.args.words.now) c.args.marks c.args.kept.now c.args.words.now c.requires.zeros }

pub returns-then-left-eq0 : goal.returns-then-left-eq0
returns-then-left-eq0 c = no_more (length c.args.words.now) c.args.marks c.args.kept.now c.loop-i.words c.loop-i.left c.loop-i.next c.loop-i.i (omega arith) (omega arith) c.loop-i.invariant.spread

pub loop-i-preserved : goal.loop-i-preserved
loop-i-preserved c = elim c.if-left-ne0.branch [
  | then-left-ne0 w ↦
      rw (w.words-is, w.next-is) record {
        spread = turn_some (length c.args.words.now) c.args.marks c.args.kept.now c.loop-i.words c.loop-i.left c.loop-i.next c.loop-i.i w.kept_at.result c.loop-i-test.true (omega (arith, w.if-left-ne0.true)) w.kept_at.ensures c.loop-i.invariant.spread;
      }
  | else-left-ne0 w ↦
      rw (w.words-is, w.next-is) record {
        spread = turn_zero (length c.args.words.now) c.args.marks c.args.kept.now c.loop-i.words c.loop-i.left c.loop-i.next c.loop-i.i c.loop-i-test.true w.if-left-ne0.false c.loop-i.invariant.spread;
      }
]

pub returns : goal.returns
returns c = at_end (length c.args.words.now) c.args.marks c.args.kept.now c.loop-i.words c.loop-i.left c.loop-i.next c.loop-i.i (omega arith) c.loop-i.invariant.spread
