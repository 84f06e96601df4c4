use Rattle.bpf_decode.proofs.Numbers.{numbers_name}
use Rattle.bpf_decode.proofs.laws.opcode_numbers_name.Goals as goal

pub returns : goal.returns
returns c = numbers_name
