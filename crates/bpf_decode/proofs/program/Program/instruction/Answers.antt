use Rattle.std.proofs.Common.{◌∙◌, subst, List}
use Rattle.bpf_profile.specs.declared.slot.Slot.{Slot}
use Rattle.bpf_profile.specs.Spelling.{IsProgram}
use Rattle.bpf_decode.proofs.Runs.{IsReadAt, is_refused}
use Rattle.bpf_decode.proofs.program.Program.instruction.Goals as goal

pub unreachable-requires : goal.unreachable-requires
unreachable-requires c =
    let program = subst (λ (slots : List Slot). IsProgram slots) c.self.view_is c.self.invariant in
    let read = subst (λ (slots : List Slot). IsReadAt slots c.args.i c.instruction_at.result) (c.deref.ensures.value ∙ c.self.view_is) c.instruction_at.ensures in
    is_refused c.args.self.now c.args.i c.instruction_at.result c.in-Err.field-0 program c.requires.place read c.requires.begins c.in-Err.is
