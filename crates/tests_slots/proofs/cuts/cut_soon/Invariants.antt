use Rattle.std.proofs.Common.{◌≡◌}
use Rattle.tests_slots.proofs.cuts.cut_soon.Given as goal

abbrev pub invariant-loop : goal.invariant-loop
invariant-loop g l = l.caller ≡ l.initial.caller
