use Rattle.std.proofs.Common.{◌≡◌}
use Rattle.tests_slots.proofs.gates.make_all.Given as goal

abbrev pub invariant-loop-wish : goal.invariant-loop-wish
invariant-loop-wish g l = l.caller ≡ l.initial.caller
