use Rattle.std.proofs.Common.{ℕ, ap, ◌∙◌, length, take, replicate, false}
use Rattle.std.proofs.lemmas.List.{take-replicate}
use Rattle.flow_check.proofs.flow.fault_of_many.Goals as goal
use Rattle.bpf_profile.specs.Limits.{most_slots}

pub mark_entered-requires-clause-unmarked : goal.mark_entered-requires-clause-unmarked
mark_entered-requires-clause-unmarked c = ap (λ (n : ℕ). take n (replicate most_slots false)) c.len.ensures.count ∙ take-replicate (length c.args.slots.now) most_slots false c.requires
