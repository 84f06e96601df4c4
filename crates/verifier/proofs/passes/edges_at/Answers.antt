use Rattle.std.proofs.Common.{◌≡◌, ◌++◌, List, ℕ, Option, Some, sym, ◌∙◌}
use Rattle.std.specs.Prelude.{option_to_list}
use Rattle.bpf_profile.specs.Flow.{successors}
use Rattle.verifier.proofs.Edges.{next_inside, target_inside}
use Rattle.verifier.proofs.passes.edges_at.Goals as goal

pub returns-clause-next : goal.returns-clause-next
returns-clause-next c =
    let same : ◌≡◌ {A = Option (List ℕ)} (Some (option_to_list c.successors.result.next ++ option_to_list c.successors.result.target)) (Some (successors c.args.slots.now c.args.place)) = sym c.successors.ensures.edges ∙ c.requires.flow.each c.args.place c.requires.place in
    next_inside c.args.slots.now c.args.place c.successors.result.next c.successors.result.target c.requires.program c.requires.accepted (cc)

pub returns-clause-target : goal.returns-clause-target
returns-clause-target c =
    let same : ◌≡◌ {A = Option (List ℕ)} (Some (option_to_list c.successors.result.next ++ option_to_list c.successors.result.target)) (Some (successors c.args.slots.now c.args.place)) = sym c.successors.ensures.edges ∙ c.requires.flow.each c.args.place c.requires.place in
    target_inside c.args.slots.now c.args.place c.successors.result.next c.successors.result.target c.requires.program c.requires.accepted (cc)
