use Rattle.std.proofs.Common.{◌∙◌, sym}
use Rattle.bpf_decode.proofs.Places.{never_refused}
use Rattle.bpf_decode.proofs.instructions.Decoded.of.Goals as goal

pub unreachable-requires : goal.unreachable-requires
unreachable-requires c =
    never_refused c.deref.result.now c.args.program.now c.read_slots.result c.in-Err.field-0 c.slots.ensures.program (c.deref.ensures.value ∙ (c.in_ok-slots.ensures.items ∙ c.slots.ensures.all)) c.read_slots.ensures.fault c.in-Err.is

pub read_slots-requires-clause-few : goal.read_slots-requires-clause-few
read_slots-requires-clause-few c = rw (c.deref.ensures.value ∙ (c.in_ok-slots.ensures.items ∙ c.slots.ensures.all)) c.slots.ensures.program.few

pub read_slots-requires-clause-empty : goal.read_slots-requires-clause-empty
read_slots-requires-clause-empty c = c.in_ok-instructions.ensures.items

pub from_slots-requires : goal.from_slots-requires
from_slots-requires c = rw (c.in_ok-slots.ensures.items ∙ c.slots.ensures.all) c.slots.ensures.program

pub invariant_of-result : goal.invariant_of-result
invariant_of-result c = rw (c.from_slots.ensures ∙ sym c.deref.ensures.value) c.in-Ok.ensures.read

pub returns-clause-same : goal.returns-clause-same
returns-clause-same c = c.from_slots.ensures ∙ (c.in_ok-slots.ensures.items ∙ c.slots.ensures.all)

pub returns-clause-program : goal.returns-clause-program
returns-clause-program c = rw (c.from_slots.ensures ∙ (c.in_ok-slots.ensures.items ∙ c.slots.ensures.all)) c.slots.ensures.program
