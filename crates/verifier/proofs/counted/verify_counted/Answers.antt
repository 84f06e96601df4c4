use Rattle.std.proofs.Common.{◌≡◌, ◌⊎◌, inl, List, sym, ap, ◌∙◌, subst}
use Rattle.bpf_profile.specs.declared.slot.Slot.{Slot}
use Rattle.bpf_profile.specs.FlowFaults.{flow_fault}
use Rattle.verifier.specs.Width.{IsWidth}
use Rattle.verifier.specs.declared.refusal.Refusal.{Refusal}
use Rattle.verifier.specs.Verifying.{IsRefused, fault_of, out_of_memory}
use Rattle.verifier.proofs.Refused.{no_value, passed_on, slot_of, slot_without_memory}
use Rattle.verifier.proofs.counted.verify_counted.Goals as goal

pub returns-in_err-verified-clause-spelled : goal.returns-in_err-verified-clause-spelled
returns-in_err-verified-clause-spelled c = no_value c.from_residual.result _ _ c.from_residual.ensures.1

pub returns-in_err-verified-clause-accepted : goal.returns-in_err-verified-clause-accepted
returns-in_err-verified-clause-accepted c = no_value c.from_residual.result _ _ c.from_residual.ensures.1

pub returns-in_err-verified-clause-safe : goal.returns-in_err-verified-clause-safe
returns-in_err-verified-clause-safe c = no_value c.from_residual.result _ _ c.from_residual.ensures.1

pub returns-in_err-verified-clause-verified : goal.returns-in_err-verified-clause-verified
returns-in_err-verified-clause-verified c = no_value c.from_residual.result _ _ c.from_residual.ensures.1

pub returns-in_err-verified-clause-layout : goal.returns-in_err-verified-clause-layout
returns-in_err-verified-clause-layout c = no_value c.from_residual.result _ _ c.from_residual.ensures.1

pub returns-in_err-verified-clause-width : goal.returns-in_err-verified-clause-width
returns-in_err-verified-clause-width c = no_value c.from_residual.result _ _ c.from_residual.ensures.1

pub returns-in_err-verified-clause-refused : goal.returns-in_err-verified-clause-refused
returns-in_err-verified-clause-refused c = passed_on c.from_residual.result _ _ (λ e is. subst (λ (f : Refusal). (f ≡ out_of_memory) ⊎ IsRefused c.args.layout c.args.bytes.now (fault_of f)) (sym is) c.in_err-verified.ensures.refused) c.from_residual.ensures.1

pub returns-in_err-verified-clause-slot : goal.returns-in_err-verified-clause-slot
returns-in_err-verified-clause-slot c = passed_on c.from_residual.result _ _ (λ e is. slot_of e c.in_err-verified.field-0.0.slot (ap (λ (f : Refusal). f.slot) is) c.in_err-verified.ensures.slot) c.from_residual.ensures.1

pub accepted_width-requires : goal.accepted_width-requires
accepted_width-requires c = ap flow_fault c.program.ensures ∙ c.in_ok-verified.ensures.accepted.0

pub returns-in_err-width-clause-spelled : goal.returns-in_err-width-clause-spelled
returns-in_err-width-clause-spelled c = no_value c.from_residual-in_err-width.result _ _ c.from_residual-in_err-width.ensures.1

pub returns-in_err-width-clause-accepted : goal.returns-in_err-width-clause-accepted
returns-in_err-width-clause-accepted c = no_value c.from_residual-in_err-width.result _ _ c.from_residual-in_err-width.ensures.1

pub returns-in_err-width-clause-safe : goal.returns-in_err-width-clause-safe
returns-in_err-width-clause-safe c = no_value c.from_residual-in_err-width.result _ _ c.from_residual-in_err-width.ensures.1

pub returns-in_err-width-clause-verified : goal.returns-in_err-width-clause-verified
returns-in_err-width-clause-verified c = no_value c.from_residual-in_err-width.result _ _ c.from_residual-in_err-width.ensures.1

pub returns-in_err-width-clause-layout : goal.returns-in_err-width-clause-layout
returns-in_err-width-clause-layout c = no_value c.from_residual-in_err-width.result _ _ c.from_residual-in_err-width.ensures.1

pub returns-in_err-width-clause-width : goal.returns-in_err-width-clause-width
returns-in_err-width-clause-width c = no_value c.from_residual-in_err-width.result _ _ c.from_residual-in_err-width.ensures.1

pub returns-in_err-width-clause-refused : goal.returns-in_err-width-clause-refused
returns-in_err-width-clause-refused c = passed_on c.from_residual-in_err-width.result _ _ (λ e is. inl (is ∙ c.in_err-width.ensures.refused)) c.from_residual-in_err-width.ensures.1

pub returns-in_err-width-clause-slot : goal.returns-in_err-width-clause-slot
returns-in_err-width-clause-slot c = passed_on c.from_residual-in_err-width.result _ _ (λ e is. slot_without_memory e (is ∙ c.in_err-width.ensures.refused)) c.from_residual-in_err-width.ensures.1

pub returns-clause-spelled : goal.returns-clause-spelled
returns-clause-spelled c = c.in_ok-verified.ensures.spelled

pub returns-clause-accepted : goal.returns-clause-accepted
returns-clause-accepted c = c.in_ok-verified.ensures.accepted

pub returns-clause-safe : goal.returns-clause-safe
returns-clause-safe c = c.in_ok-verified.ensures.safe

pub returns-clause-verified : goal.returns-clause-verified
returns-clause-verified c = c.in_ok-verified.ensures.verified

pub returns-clause-layout : goal.returns-clause-layout
returns-clause-layout c = c.in_ok-verified.ensures.layout

pub returns-clause-width : goal.returns-clause-width
returns-clause-width c = subst (λ (slots : List Slot). IsWidth slots c.in_ok-width.width) c.program.ensures c.in_ok-width.ensures.width
