use Rattle.std.proofs.lemmas.Nat.{xor_lt}
use Rattle.std.specs.Prelude.{bit_xor}
use Rattle.abs_domain.proofs.Differing.{positive, same, has_highest, different}
use Rattle.abs_domain.proofs.reduction.differing.Goals as goal

-- src/reduction.rt:23:9
pub returns-then-difference-eq0 : goal.returns-then-difference-eq0
returns-then-difference-eq0 c = same c.args.a c.args.b c.if-difference-eq0.true

-- src/reduction.rt:25:28
pub overflow_sub-highest : goal.overflow_sub-highest
overflow_sub-highest c = has_highest (bit_xor c.args.a c.args.b) (positive (bit_xor c.args.a c.args.b) c.if-difference-eq0.false) (xor_lt 64 c.args.a c.args.b c.ranges.a.fits c.ranges.b.fits)

-- src/reduction.rt:18:1
pub returns : goal.returns
returns c = different c.args.a c.args.b (positive (bit_xor c.args.a c.args.b) c.if-difference-eq0.false) (xor_lt 64 c.args.a c.args.b c.ranges.a.fits c.ranges.b.fits)
