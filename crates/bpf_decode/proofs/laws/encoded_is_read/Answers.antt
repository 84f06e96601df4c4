use Rattle.bpf_decode.proofs.Readings.{read_again}
use Rattle.bpf_decode.proofs.laws.encoded_is_read.Goals as goal

pub returns : goal.returns
returns c = read_again
