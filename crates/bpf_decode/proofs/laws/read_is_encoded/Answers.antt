use Rattle.bpf_decode.proofs.Inverse.{stands}
use Rattle.bpf_decode.proofs.laws.read_is_encoded.Goals as goal

pub returns : goal.returns
returns c = stands
