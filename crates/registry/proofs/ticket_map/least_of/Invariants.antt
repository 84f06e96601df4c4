use Rattle.std.proofs.Common.{◌≡◌}
use Rattle.std.specs.BTreeMap.{values}
use Rattle.registry.specs.Terms.{least_of}
use Rattle.registry.proofs.ticket_map.least_of.Given as goal

-- the least of those that were seen and of those to come
abbrev pub invariant-loop-one : goal.invariant-loop-one
invariant-loop-one l = least_of l.least l.one-iterator ≡ least_of l.current (values l.terms)
