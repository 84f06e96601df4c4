use Rattle.std.proofs.Common.{◌∙◌, List, sym, ap, subst, length, arith, false}
use Rattle.bpf_profile.specs.declared.slot.Slot.{Slot}
use Rattle.bpf_profile.specs.Spelling.{Spells}
use Rattle.bpf_profile.specs.SpellingFaults.{fault_from}
use Rattle.bpf_decode.specs.Faults.{fault_of}
use Rattle.bpf_decode.specs.Kept.{AreInstructions}
use Rattle.bpf_decode.proofs.Spelled.{read_few, read_spelled, bad_unspelled, faulty_unspelled, same_slots}
use Rattle.bpf_decode.proofs.instructions.Decoded.decode.Goals as goal

pub returns-then-has_bad_length-clause-complete : goal.returns-then-has_bad_length-clause-complete
returns-then-has_bad_length-clause-complete c = λ slots spells. absurd (bad_unspelled c.args.bytes.now slots (sym c.has_bad_length.ensures ∙ c.if-has_bad_length.true) spells)

pub read_slots-requires-clause-few : goal.read_slots-requires-clause-few
read_slots-requires-clause-few c =
    let few = read_few c.args.bytes.now c.in_ok-slots.slots.items (sym c.has_bad_length.ensures ∙ c.if-has_bad_length.false) c.in_ok-slots.ensures in
    omega (arith, ap length c.deref.ensures.value)

pub returns-in_err-read_slots-clause-complete : goal.returns-in_err-read_slots-clause-complete
returns-in_err-read_slots-clause-complete c = λ slots spells.
    absurd (faulty_unspelled c.args.bytes.now c.in_ok-slots.slots.items slots (fault_of c.in_err-read_slots.field-0.0) c.in_ok-slots.ensures
    (c.in_err-read_slots.ensures.fault ∙ ap (fault_from 0 false) c.deref.ensures.value) spells)

pub from_slots-requires : goal.from_slots-requires
from_slots-requires c =
    let spelled = read_spelled c.args.bytes.now c.in_ok-slots.slots.items (λ i. omega (arith, c.type_inv.bytes i)) (sym c.has_bad_length.ensures ∙ c.if-has_bad_length.false) c.in_ok-slots.ensures
    (ap (fault_from 0 false) (sym c.deref.ensures.value) ∙ sym c.in_ok-read_slots.ensures.fault) in
    spelled.program

pub returns-clause-program : goal.returns-clause-program
returns-clause-program c =
    let spelled = read_spelled c.args.bytes.now c.in_ok-slots.slots.items (λ i. omega (arith, c.type_inv.bytes i)) (sym c.has_bad_length.ensures ∙ c.if-has_bad_length.false) c.in_ok-slots.ensures
    (ap (fault_from 0 false) (sym c.deref.ensures.value) ∙ sym c.in_ok-read_slots.ensures.fault) in
    subst (Spells c.args.bytes.now) (sym c.from_slots.ensures) spelled

pub invariant_of-result : goal.invariant_of-result
invariant_of-result c = subst (λ (slots : List Slot). AreInstructions slots c.read_slots.new.instructions.items) (c.deref.ensures.value ∙ sym c.from_slots.ensures) c.in_ok-read_slots.ensures.read

pub returns-clause-complete : goal.returns-clause-complete
returns-clause-complete c = λ slots spells. same_slots c.args.bytes.now c.from_slots.result slots (returns-clause-program c) spells
