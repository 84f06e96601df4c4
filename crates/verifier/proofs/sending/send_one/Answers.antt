use Rattle.std.proofs.Common.{◌≡◌, false, Err, sym, ap, ◌∙◌, subst}
use Rattle.std.specs.Prelude.{box_value}
use Rattle.abs_states.specs.declared.state.AbsState.{AbsState}
use Rattle.abs_states.specs.Transfers.{transfer_in}
use Rattle.bpf_profile.specs.Layouts.{context_size}
use Rattle.verifier.specs.declared.refusal.Refusal.{Refusal}
use Rattle.verifier.specs.Analysis.{fault_in}
use Rattle.verifier.proofs.Refused.{no_value, passed_on}
use Rattle.verifier.proofs.sending.send_one.Goals as goal

pub returns-in_err-follow-clause-passed : goal.returns-in_err-follow-clause-passed
returns-in_err-follow-clause-passed g c = no_value c.from_residual.result _ _ c.from_residual.ensures.1

pub returns-in_err-follow-clause-sent : goal.returns-in_err-follow-clause-sent
returns-in_err-follow-clause-sent g c = no_value c.from_residual.result _ _ c.from_residual.ensures.1

pub returns-in_err-follow-clause-fault : goal.returns-in_err-follow-clause-fault
returns-in_err-follow-clause-fault g c =
    passed_on c.from_residual.result _ _
    (λ e is. subst (λ (f : Refusal). (transfer_in g.D.Domain (context_size c.args.layout) (box_value c.args.state) false c.args.instruction.now ≡ Err f.number) × (f.slot ≡ c.args.slot)) (sym is)
    (ap (λ (s : AbsState g.row.D.Denot). transfer_in g.D.Domain (context_size c.args.layout) s false c.args.instruction.now) (sym c.deref_mut.ensures.value) ∙ c.in_err-follow.ensures.refused, c.in_err-follow.ensures.slot))
    c.from_residual.ensures.1

pub returns-clause-passed : goal.returns-clause-passed
returns-clause-passed g c = ap (λ r. fault_in r) (ap (λ (s : AbsState g.row.D.Denot). transfer_in g.D.Domain (context_size c.args.layout) s false c.args.instruction.now) (sym c.deref_mut.ensures.value) ∙ c.in_ok-follow.ensures.passed)
