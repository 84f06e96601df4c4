use Rattle.bpf_profile.proofs.FirstFaults.{flow_law, flow_none_law}
use Rattle.bpf_profile.proofs.laws.flow_fault_is_the_least.Goals as goal

pub returns : goal.returns
returns c = record { some = flow_law; none = flow_none_law }
