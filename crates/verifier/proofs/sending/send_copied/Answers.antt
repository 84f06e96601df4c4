use Rattle.std.proofs.Common.{◌≡◌, ◌⊎◌, inl, inr, ℕ, ◌<◌, Err, true, false, sym, ap, ◌∙◌, subst}
use Rattle.std.specs.Prelude.{box_value}
use Rattle.abs_states.specs.declared.state.AbsState.{AbsState}
use Rattle.abs_states.specs.Transfers.{transfer_in}
use Rattle.bpf_profile.specs.Layouts.{context_size}
use Rattle.verifier.specs.declared.refusal.Refusal.{Refusal}
use Rattle.verifier.specs.Analysis.{fault_in}
use Rattle.verifier.specs.Verifying.{out_of_memory}
use Rattle.verifier.proofs.Known.{never_fails}
use Rattle.verifier.proofs.Refused.{no_value, passed_on}
use Rattle.verifier.proofs.sending.send_copied.Goals as goal

-- the second way doesn't fail where the first one passes
pub returns-in_err-follow-2-clause-fault : goal.returns-in_err-follow-2-clause-fault
returns-in_err-follow-2-clause-fault g c =
    absurd (never_fails g.D.Domain (context_size c.args.layout) (box_value c.args.state) _ c.args.instruction.now _
    (ap (λ (s : AbsState g.row.D.Denot). transfer_in g.D.Domain (context_size c.args.layout) s false c.args.instruction.now) (sym c.deref_mut.ensures.value) ∙ c.in_ok-follow.ensures.passed)
    (ap (λ (s : AbsState g.row.D.Denot). transfer_in g.D.Domain (context_size c.args.layout) s true c.args.instruction.now) (sym (c.deref_mut-2.ensures.value ∙ (c.in_ok-other.ensures ∙ c.deref.ensures))) ∙ c.in_err-follow-2.ensures.refused))

pub boxed_copy-requires : goal.boxed_copy-requires
boxed_copy-requires g c = (c.requires.fits, c.requires.fits)

pub follow-requires : goal.follow-requires
follow-requires g c = c.requires.fits

pub follow-requires-2 : goal.follow-requires-2
follow-requires-2 g c = c.requires.fits

pub deliver-requires : goal.deliver-requires
deliver-requires g c = (c.requires.fits, c.requires.next)

pub join_at-requires : goal.join_at-requires
join_at-requires g c = (c.requires.fits, subst (λ (n : ℕ). c.args.target < n) (sym c.deliver.auto.states) c.requires.target)

pub returns-in_err-other-clause-passed : goal.returns-in_err-other-clause-passed
returns-in_err-other-clause-passed g c = no_value c.from_residual.result _ _ c.from_residual.ensures.1

pub returns-in_err-other-clause-sent : goal.returns-in_err-other-clause-sent
returns-in_err-other-clause-sent g c = no_value c.from_residual.result _ _ c.from_residual.ensures.1

pub returns-in_err-other-clause-fault : goal.returns-in_err-other-clause-fault
returns-in_err-other-clause-fault g c = passed_on c.from_residual.result _ _ (λ e is. inl is) c.from_residual.ensures.1

pub returns-in_err-follow-clause-passed : goal.returns-in_err-follow-clause-passed
returns-in_err-follow-clause-passed g c = no_value c.from_residual-in_err-follow.result _ _ c.from_residual-in_err-follow.ensures.1

pub returns-in_err-follow-clause-sent : goal.returns-in_err-follow-clause-sent
returns-in_err-follow-clause-sent g c = no_value c.from_residual-in_err-follow.result _ _ c.from_residual-in_err-follow.ensures.1

pub returns-in_err-follow-clause-fault : goal.returns-in_err-follow-clause-fault
returns-in_err-follow-clause-fault g c =
    passed_on c.from_residual-in_err-follow.result _ _
    (λ e is. subst (λ (f : Refusal). (f ≡ out_of_memory) ⊎ ((transfer_in g.D.Domain (context_size c.args.layout) (box_value c.args.state) false c.args.instruction.now ≡ Err f.number) × (f.slot ≡ c.args.slot))) (sym is)
    (inr (ap (λ (s : AbsState g.row.D.Denot). transfer_in g.D.Domain (context_size c.args.layout) s false c.args.instruction.now) (sym c.deref_mut.ensures.value) ∙ c.in_err-follow.ensures.refused, c.in_err-follow.ensures.slot)))
    c.from_residual-in_err-follow.ensures.1

pub returns-in_err-follow-2-clause-passed : goal.returns-in_err-follow-2-clause-passed
returns-in_err-follow-2-clause-passed g c = no_value c.from_residual-in_err-follow-2.result _ _ c.from_residual-in_err-follow-2.ensures.1

pub returns-in_err-follow-2-clause-sent : goal.returns-in_err-follow-2-clause-sent
returns-in_err-follow-2-clause-sent g c = no_value c.from_residual-in_err-follow-2.result _ _ c.from_residual-in_err-follow-2.ensures.1

pub returns-clause-passed : goal.returns-clause-passed
returns-clause-passed g c = ap (λ r. fault_in r) (ap (λ (s : AbsState g.row.D.Denot). transfer_in g.D.Domain (context_size c.args.layout) s false c.args.instruction.now) (sym c.deref_mut.ensures.value) ∙ c.in_ok-follow.ensures.passed)
