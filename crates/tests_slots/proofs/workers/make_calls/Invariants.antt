use Rattle.std.proofs.Common.{◌≡◌}
use Rattle.tests_slots.proofs.workers.make_calls.Given as goal

abbrev pub invariant-loop-round : goal.invariant-loop-round
invariant-loop-round g l = l.caller ≡ l.initial.caller
