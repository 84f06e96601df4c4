use Rattle.std.proofs.Common.{◌≡◌, ◌<◌, ◌≤◌, length, None, sym, ap, ◌∙◌, subst, arith}
use Rattle.bpf_profile.specs.Layouts.{context_size}
use Rattle.verifier.specs.Analysis.{fault_at, fault_from}
use Rattle.verifier.specs.Passes.{seen}
use Rattle.verifier.proofs.Edges.{forward}
use Rattle.verifier.proofs.Known.{Sent, none_sent, sent_more, all_known, fault_here, fault_on, fault_done}
use Rattle.verifier.proofs.Taken.{length-seen, sent_awaits, awaited_ends, memory_slot}
use Rattle.verifier.proofs.passes.pass_all.Goals as goal

pub loop-place-init : goal.loop-place-init
loop-place-init g c = record {
  sent = none_sent g.D.Domain (context_size c.args.layout) c.args.slots.now (seen c.args.states.now) c.requires.program.some c.requires.entered;
  rest = ap (fault_from g.D.Domain (context_size c.args.layout) c.args.slots.now 0) (omega arith);
}

pub returns-in-Err-clause-fault : goal.returns-in-Err-clause-fault
returns-in-Err-clause-fault g c =
    awaited_ends g.D.Domain (context_size c.args.layout) c.args.slots.now (seen c.loop-place.states) c.loop-place.place c.in-Err.refusal (omega arith) (sent_awaits g.D.Domain (context_size c.args.layout) c.args.slots.now (seen c.loop-place.states) c.loop-place.place c.loop-place.invariant.sent) c.loop-place.invariant.rest
    c.in-Err.ensures.fault

pub returns-in-Err-clause-slot : goal.returns-in-Err-clause-slot
returns-in-Err-clause-slot g c = memory_slot c.in-Err.refusal _ c.loop-place.place (let few = c.requires.program.few in omega (arith, few)) c.in-Err.ensures.fault

pub loop-place-preserved : goal.loop-place-preserved
loop-place-preserved g c =
    let sent = c.loop-place.invariant.sent in
    let faultless : fault_at g.D.Domain (context_size c.args.layout) c.args.slots.now c.loop-place.place ≡ None = fault_here g.D.Domain (context_size c.args.layout) c.args.slots.now (seen c.loop-place.states) c.loop-place.place (omega arith) sent ∙ c.in-Ok.ensures.passed in
    record {
      sent = subst (Sent g.D.Domain (context_size c.args.layout) c.args.slots.now (seen c.pass.new.states)) (omega arith)
          (sent_more g.D.Domain (context_size c.args.layout) c.args.slots.now (seen c.loop-place.states) (seen c.pass.new.states) c.loop-place.place (forward c.args.slots.now c.requires.program c.requires.accepted) (omega arith) sent c.in-Ok.ensures.sent);
      rest = sym (fault_on g.D.Domain (context_size c.args.layout) c.args.slots.now c.loop-place.place (omega arith) faultless)
          ∙ c.loop-place.invariant.rest;
    }

pub returns-clause-passed : goal.returns-clause-passed
returns-clause-passed g c =
    let all : length c.args.slots.now ≤ c.loop-place.place = omega arith in
    sym c.loop-place.invariant.rest ∙ fault_done g.D.Domain (context_size c.args.layout) c.args.slots.now c.loop-place.place all

pub returns-clause-known : goal.returns-clause-known
returns-clause-known g c =
    let all : length c.args.slots.now ≤ c.loop-place.place = omega arith in
    all_known g.D.Domain (context_size c.args.layout) c.args.slots.now (seen c.loop-place.states) c.loop-place.place (forward c.args.slots.now c.requires.program c.requires.accepted) all c.loop-place.invariant.sent

pub pass-requires : goal.pass-requires
pass-requires g c =
    let place : c.loop-place.place < length c.args.slots.now = omega arith in
    (c.requires.fits, (c.requires.fits, (place, (sym (length-seen c.loop-place.states) ∙ c.loop-place.invariant.sent.same, (c.requires.program, (c.requires.accepted, c.requires.flow))))))
