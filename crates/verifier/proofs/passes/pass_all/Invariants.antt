use Rattle.std.proofs.Common.{◌≡◌, ◌-◌, length}
use Rattle.verifier.specs.Analysis.{fault_from}
use Rattle.verifier.specs.Passes.{seen}
use Rattle.verifier.proofs.Known.{Sent}
use Rattle.verifier.proofs.passes.pass_all.Given as goal
use Rattle.bpf_profile.specs.Layouts.{context_size}

-- the slots so far have sent, and the fault is the first of those that are left
abbrev pub invariant-loop-place : goal.invariant-loop-place
invariant-loop-place g l = record {
  sent : Sent g.D.Domain (context_size l.layout) l.slots (seen l.states) l.place;
  rest : fault_from g.D.Domain (context_size l.layout) l.slots l.place (length l.slots - l.place) ≡ fault_from g.D.Domain (context_size l.layout) l.slots 0 (length l.slots);
}
