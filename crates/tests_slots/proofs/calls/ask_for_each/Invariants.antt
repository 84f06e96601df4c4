use Rattle.std.proofs.Common.{◌≡◌}
use Rattle.tests_slots.proofs.calls.ask_for_each.Given as goal

abbrev pub invariant-loop-step : goal.invariant-loop-step
invariant-loop-step g l = l.caller ≡ l.initial.caller
