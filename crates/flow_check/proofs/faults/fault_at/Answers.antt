use Rattle.std.proofs.Common.{List, sym, ap, ◌∙◌}
use Rattle.bpf_profile.specs.declared.slot.Slot.{Slot}
use Rattle.flow_check.specs.Passes.{edge_fault}
use Rattle.flow_check.proofs.Refusals.{unentered, entered, no_instruction}
use Rattle.flow_check.proofs.faults.fault_at.Goals as goal

pub returns-in-Some : goal.returns-in-Some
returns-in-Some c = sym (unentered c.args.slots.now c.args.entered.now c.args.place c.in-Some.field-0 c.requires.entered c.requires.within (sym c.in-Some.ensures) c.if-not-entered-place.true)

pub returns-in-Some-2 : goal.returns-in-Some-2
returns-in-Some-2 c =
    c.edge_fault.ensures
    ∙ (ap (λ (slots : List Slot). edge_fault slots c.args.place c.in-Some.field-0) c.slots.ensures.all
    ∙ sym (entered c.args.slots.now c.args.entered.now c.args.place c.in-Some.field-0 c.requires.entered c.requires.within (sym c.in-Some.ensures) c.if-not-entered-place.false))

pub returns-in-None : goal.returns-in-None
returns-in-None c = sym (no_instruction c.args.slots.now c.args.place (sym c.in-None.ensures))
