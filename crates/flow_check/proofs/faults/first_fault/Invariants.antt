use Rattle.std.proofs.Common.{◌≡◌, ◌-◌, length}
use Rattle.bpf_profile.specs.FlowFaults.{flow_fault_from}
use Rattle.flow_check.proofs.faults.first_fault.Given as goal

abbrev pub invariant-loop-place : goal.invariant-loop-place
invariant-loop-place l = flow_fault_from l.slots 0 (length l.slots) ≡ flow_fault_from l.slots l.place (length l.slots - l.place)
