use Rattle.std.proofs.Common.{ℕ, ap, ◌∙◌, length, take, replicate}
use Rattle.std.proofs.lemmas.List.{take-replicate}
use Rattle.flow_check.proofs.EdgeKinds.{are_few}
use Rattle.flow_check.proofs.flow.routes_of_few.Goals as goal

pub follow_all-requires-clause-unfound : goal.follow_all-requires-clause-unfound
follow_all-requires-clause-unfound c = ap (λ (n : ℕ). take n (replicate 64 0)) c.len-2.ensures.count ∙ take-replicate (length c.args.slots.now) 64 0 c.requires.few

pub invariant_of-result : goal.invariant_of-result
invariant_of-result c =
    are_few c.args.slots.now (record { program = c.requires.program; faultless = c.requires.accepted }) c.follow_all.new.edges.items c.in_ok-budget.budget c.in_ok-budget.ensures.kinds c.in_ok-budget.ensures.budget
