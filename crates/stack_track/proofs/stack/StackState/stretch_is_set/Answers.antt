use Rattle.std.proofs.Common.{◌∙◌, sym}
use Rattle.stack_track.proofs.Stretched.{set_more, set_less}
use Rattle.stack_track.proofs.stack.StackState.stretch_is_set.Goals as goal

pub returns-then-not-byte_is_set : goal.returns-then-not-byte_is_set
returns-then-not-byte_is_set g c = sym (set_less c.args.self.now c.args.place c.args.count c.loop-i.i c.loop-i-test.true (sym c.byte_is_set.ensures ∙ c.if-not-byte_is_set.true)) ∙ c.loop-i.invariant

pub loop-i-preserved : goal.loop-i-preserved
loop-i-preserved g c = set_more c.args.self.now c.args.place c.args.count c.loop-i.i c.loop-i-test.true (sym c.byte_is_set.ensures ∙ c.if-not-byte_is_set.false) ∙ c.loop-i.invariant
