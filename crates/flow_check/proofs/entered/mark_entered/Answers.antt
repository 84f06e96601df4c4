use Rattle.std.proofs.Common.{refl}
use Rattle.flow_check.proofs.Marks.{entered_step}
use Rattle.flow_check.proofs.entered.mark_entered.Goals as goal

pub loop-place-preserved : goal.loop-place-preserved
loop-place-preserved c = entered_step c.args.slots.now c.loop-place.place _ c.loop-place.entered _ refl c.loop-place.invariant c.mark_successors.ensures
