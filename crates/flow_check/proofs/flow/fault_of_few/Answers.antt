use Rattle.std.proofs.Common.{ℕ, ap, ◌∙◌, length, take, replicate, false}
use Rattle.std.proofs.lemmas.List.{take-replicate}
use Rattle.flow_check.proofs.flow.fault_of_few.Goals as goal

pub mark_entered-requires-clause-unmarked : goal.mark_entered-requires-clause-unmarked
mark_entered-requires-clause-unmarked c = ap (λ (n : ℕ). take n (replicate 64 false)) c.len.ensures.count ∙ take-replicate (length c.args.slots.now) 64 false c.requires
