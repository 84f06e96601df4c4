use Rattle.flow_check.specs.Passes.{AreEntered}
use Rattle.flow_check.proofs.entered.mark_entered.Given as goal

abbrev pub invariant-loop-place : goal.invariant-loop-place
invariant-loop-place l = AreEntered l.slots l.place l.entered
