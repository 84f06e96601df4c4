use Rattle.std.proofs.Common.{◌≡◌}
use Rattle.tests_slots.proofs.tries.fill_journal.Given as goal

abbrev pub invariant-loop : goal.invariant-loop
invariant-loop g l = l.caller ≡ l.initial.caller
