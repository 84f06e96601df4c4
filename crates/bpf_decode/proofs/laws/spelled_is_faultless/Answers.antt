use Rattle.bpf_decode.proofs.Spelled.{spelled_none}
use Rattle.bpf_decode.proofs.laws.spelled_is_faultless.Goals as goal

pub returns : goal.returns
returns c = spelled_none
