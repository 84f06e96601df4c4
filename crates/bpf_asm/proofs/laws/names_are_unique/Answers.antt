use Rattle.bpf_asm.proofs.Called.{one_name}
use Rattle.bpf_asm.proofs.laws.names_are_unique.Goals as goal

pub returns : goal.returns
returns c = one_name
