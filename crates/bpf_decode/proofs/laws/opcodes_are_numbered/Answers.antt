use Rattle.bpf_decode.proofs.Numbers.{names_number}
use Rattle.bpf_decode.proofs.laws.opcodes_are_numbered.Goals as goal

pub returns : goal.returns
returns c = names_number
