use Rattle.bpf_profile.proofs.Edges.{edges_forward}
use Rattle.bpf_profile.proofs.laws.edges_lead_forward.Goals as goal

pub returns : goal.returns
returns c = edges_forward
