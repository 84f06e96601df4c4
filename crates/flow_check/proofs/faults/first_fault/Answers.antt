use Rattle.std.proofs.Common.{refl, sym, ◌∙◌, length, ◌+◌, arith}
use Rattle.flow_check.proofs.Refusals.{passed, found, nothing_left}
use Rattle.flow_check.proofs.faults.first_fault.Goals as goal

pub returns-in-Some-clause-fault : goal.returns-in-Some-clause-fault
returns-in-Some-clause-fault c = sym (c.loop-place.invariant ∙ found c.args.slots.now c.loop-place.place (length c.args.slots.now) c.in-Some.number (omega arith) (sym c.in-Some.ensures))

pub loop-place-preserved : goal.loop-place-preserved
loop-place-preserved c = c.loop-place.invariant ∙ passed c.args.slots.now c.loop-place.place (c.loop-place.place + 1) (length c.args.slots.now) (omega arith) refl (sym c.fault_at.ensures ∙ c.in_default.is)

pub returns-clause-fault : goal.returns-clause-fault
returns-clause-fault c = sym (c.loop-place.invariant ∙ nothing_left c.args.slots.now c.loop-place.place (length c.args.slots.now) (omega arith))
