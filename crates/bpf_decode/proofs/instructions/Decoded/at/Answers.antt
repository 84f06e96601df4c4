use Rattle.std.proofs.Common.{◌∙◌, subst, List, arith}
use Rattle.bpf_profile.specs.declared.slot.Slot.{Slot}
use Rattle.bpf_decode.specs.Kept.{AreInstructions}
use Rattle.bpf_decode.proofs.Places.{place_within, instruction_there}
use Rattle.bpf_decode.proofs.instructions.Decoded.at.Goals as goal

pub index-requires : goal.index-requires
index-requires c =
    let read = subst (λ (slots : List Slot). AreInstructions slots c.self.inside.instructions.items) c.self.view_is c.self.invariant in
    let within = place_within c.args.self.now c.self.inside.instructions.items c.args.place read c.requires in
    let sized = c.self.inside.instructions.ok.0 in
    omega (arith, within, sized)

pub returns : goal.returns
returns c =
    let read = subst (λ (slots : List Slot). AreInstructions slots c.self.inside.instructions.items) c.self.view_is c.self.invariant in
    c.index.ensures ∙ instruction_there c.args.self.now c.self.inside.instructions.items c.args.place _ read c.requires
