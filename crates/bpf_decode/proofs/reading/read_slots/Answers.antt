use Rattle.std.proofs.Common.{None, arith, false}
use Rattle.bpf_profile.specs.declared.slot.Slot.TheVariants.{Ins}
use Rattle.bpf_profile.specs.SpellingFaults.{fault_from}
use Rattle.bpf_decode.proofs.Places.{read_more, tail_none, read_is, begins_next}
use Rattle.bpf_decode.proofs.Runs.{skips, goes_on, ends, is_done}
use Rattle.bpf_decode.proofs.reading.read_slots.Goals as goal

pub returns-in-Err-clause-fault : goal.returns-in-Err-clause-fault
returns-in-Err-clause-fault c =
    ends c.args.slots.now c.loop-place.place c.instruction_at.result c.in-Err.number c.loop-place.is_second (fault_from 0 false c.args.slots.now)
    c.loop-place-test.true c.instruction_at.ensures c.in-Err.is c.if-is_second.false c.loop-place.invariant.fault

pub loop-place-preserved-then-is_second : goal.loop-place-preserved-then-is_second
loop-place-preserved-then-is_second c = record {
  fault = skips c.args.slots.now c.loop-place.place c.loop-place.is_second (fault_from 0 false c.args.slots.now) c.loop-place-test.true c.if-is_second.true c.loop-place.invariant.fault;
  begins = tt;
  read = read_more c.args.slots.now c.loop-place.place c.loop-place.instructions.items c.push_reserved.new.self.items None c.loop-place.invariant.read c.push_reserved.ensures.items
      (tail_none c.args.slots.now c.loop-place.place c.loop-place.is_second c.if-is_second.true c.loop-place.invariant.begins);
  sized = omega (arith, c.push_reserved.ensures.len, c.loop-place.invariant.sized);
  room = omega (arith, c.push_reserved.ensures.capacity, c.loop-place.invariant.room);
}

pub loop-place-preserved : goal.loop-place-preserved
loop-place-preserved c = record {
  fault = goes_on c.args.slots.now c.loop-place.place c.instruction_at.result c.in-Ok.instruction c.loop-place.is_second c.begins_wide-is_second.result (Ins 0 0 0 0 0) (fault_from 0 false c.args.slots.now)
      c.loop-place-test.true c.instruction_at.ensures c.in-Ok.is c.if-is_second.false c.begins_wide-is_second.ensures c.loop-place.invariant.fault;
  begins = begins_next c.args.slots.now c.loop-place.place c.instruction_at.result c.in-Ok.instruction c.begins_wide-is_second.result (Ins 0 0 0 0 0) c.loop-place-test.true c.instruction_at.ensures c.in-Ok.is c.begins_wide-is_second.ensures;
  read = read_more c.args.slots.now c.loop-place.place c.loop-place.instructions.items c.push_reserved-in-Ok.new.self.items _ c.loop-place.invariant.read c.push_reserved-in-Ok.ensures.items
      (read_is c.args.slots.now c.loop-place.place c.instruction_at.result c.in-Ok.instruction c.loop-place-test.true c.instruction_at.ensures c.in-Ok.is);
  sized = omega (arith, c.push_reserved-in-Ok.ensures.len, c.loop-place.invariant.sized);
  room = omega (arith, c.push_reserved-in-Ok.ensures.capacity, c.loop-place.invariant.room);
}

pub returns-clause-fault : goal.returns-clause-fault
returns-clause-fault c = is_done c.args.slots.now c.loop-place.place c.loop-place.is_second (fault_from 0 false c.args.slots.now) c.loop-place-test.false c.loop-place.invariant.fault
