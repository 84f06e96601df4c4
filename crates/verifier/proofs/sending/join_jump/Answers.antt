use Rattle.std.proofs.Common.{true, None, sym, ap, ◌∙◌}
use Rattle.std.specs.Prelude.{box_value}
use Rattle.abs_states.specs.declared.state.AbsState.{AbsState}
use Rattle.abs_states.specs.Joining.{joined_with}
use Rattle.abs_states.specs.Transfers.{branches_in}
use Rattle.verifier.proofs.JumpFirst.{put_back, branch_joined}
use Rattle.verifier.proofs.Known.{get_or-default}
use Rattle.verifier.proofs.Taken.{box_joined_in}
use Rattle.verifier.proofs.sending.join_jump.Goals as goal

pub returns-in-Ok-clause-joined : goal.returns-in-Ok-clause-joined
returns-in-Ok-clause-joined g c did =
    let there = get_or-default c.args.states.now c.args.target None _ c.requires ∙ (sym c.take.ensures.value ∙ c.in-Some.is) in
    let found = branch_joined g.D.Domain c.args.state.now (box_value c.in-Some.before) c.join_branch.new.other c.args.instruction.now c.in-Branch.comparison c.in-Branch.width c.in-Branch.left c.in-Branch.right c.in-Branch.distance c.in-Branch.is
    (ap (λ (before : AbsState g.row.D.Denot). joined_with g.D.Domain before (branches_in g.D.Domain c.args.state.now true c.in-Branch.comparison c.in-Branch.width c.in-Branch.left c.in-Branch.right)) (sym c.deref_mut.ensures.value) ∙ c.in-Ok.ensures.joined) in
    (found.0, found.1, box_joined_in g.D.Domain c.args.states.now c.args.target c.take.new.self c.in-Some.before _ found.0 there found.2)

pub returns-in-Err-clause-kept : goal.returns-in-Err-clause-kept
returns-in-Err-clause-kept g c did =
    let there = get_or-default c.args.states.now c.args.target None _ c.requires ∙ (sym c.take.ensures.value ∙ c.in-Some.is) in
    put_back c.args.states.now c.args.target c.take.new.self c.in-Some.before _ there (c.in-Err.ensures.unchanged ∙ c.deref_mut.ensures.value)
