use Rattle.std.proofs.Common.{List, ap, ◌∙◌, subst}
use Rattle.bpf_profile.specs.FlowFaults.{flow_fault}
use Rattle.bpf_profile.specs.declared.slot.Slot.{Slot}
use Rattle.verifier.specs.Width.{IsWidth}
use Rattle.verifier.proofs.Edges.{is_flow_of}
use Rattle.verifier.proofs.counted.accepted_width.Goals as goal

pub width_of-requires : goal.width_of-requires
width_of-requires c =
    let all = c.in_ok-slots.ensures.same in
    record {
      program = c.in_ok-slots.ensures.program;
      accepted = ap flow_fault all ∙ c.requires;
      flow = is_flow_of c.in_ok-slots.slots c.in-Ok.flow.edges c.in-Ok.ensures.edges;
    }

pub returns-in-Ok-clause-width : goal.returns-in-Ok-clause-width
returns-in-Ok-clause-width c = subst (λ (slots : List Slot). IsWidth slots c.width_of.result) c.in_ok-slots.ensures.same c.width_of.ensures
