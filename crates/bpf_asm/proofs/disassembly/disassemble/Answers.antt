use Rattle.std.proofs.Common.{sym, ◌∙◌, rules}
use Rattle.std.specs.String.{string_bytes}
use Rattle.bpf_asm.specs.Canonical.{text_of}
use Rattle.bpf_asm.proofs.Listing.{appends_line, appends_nothing}
use Rattle.bpf_asm.proofs.disassembly.disassemble.Goals as goal
use Rattle.bpf_asm.proofs.disassembly.disassemble.Goals.{in-Some+in_ok-push_line, in_default}

pub loop-place-preserved : goal.loop-place-preserved
loop-place-preserved c =
    let slots = c.slots-slots.result.now in
    elim c.match-instruction_at.branch [
      | in-Some+in_ok-push_line w ↦ rw w.text-is (appends_line slots c.loop-place.place w.in-Some.instruction (string_bytes c.loop-place.text) _ (text_of slots) c.loop-place-test.true w.in-Some.ensures w.in_ok-push_line.ensures c.loop-place.invariant)
      | in_default w ↦ rw w.text-is (appends_nothing slots c.loop-place.place (text_of slots) (string_bytes c.loop-place.text) c.loop-place-test.true (sym w.in_default.is ∙ c.instruction_at.ensures) c.loop-place.invariant)
    ]

pub loop-place-init : goal.loop-place-init
loop-place-init c = search rules
