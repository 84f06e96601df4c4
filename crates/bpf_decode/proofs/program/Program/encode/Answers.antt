use Rattle.std.proofs.Common.{◌∙◌, ap, arith, length, List}
use Rattle.std.proofs.lemmas.List.{take_all}
use Rattle.std.specs.List.{flat_map}
use Rattle.bpf_profile.specs.Spelling.{slot_bytes}
use Rattle.bpf_profile.specs.declared.slot.Slot.{Slot}
use Rattle.bpf_decode.proofs.program.Program.encode.Goals as goal

pub overflow_mul-len : goal.overflow_mul-len
overflow_mul-len c = omega (arith, c.len.ensures.count, c.len.ensures.program.few)

pub loop-slot-init : goal.loop-slot-init
loop-slot-init c = (c.in_ok-bytes.ensures.items, c.in_ok-bytes.ensures.len, omega (arith, c.in_ok-bytes.ensures.capacity, c.len.ensures.count, ap (λ (xs : List Slot). length xs) (c.deref-slot-items.ensures.value ∙ c.self.view_is)))

pub unwrap-requires : goal.unwrap-requires
unwrap-requires c = c.extend_from_slice.ensures.succeeds (omega (arith, c.loop-slot.invariant.1, c.loop-slot.invariant.2, c.loop-slot-test.true))

pub returns : goal.returns
returns c =
    let all = take_all c.loop-slot.slot-index c.deref-slot-items.result.now (omega (arith, c.loop-slot-test.false)) in
    record { program = c.len.ensures.program; text = c.loop-slot.invariant.0 ∙ ap (flat_map slot_bytes) (all ∙ (c.deref-slot-items.ensures.value ∙ c.self.view_is)) }
