use Rattle.bpf_asm.proofs.Leniency.{numbers_alike}
use Rattle.bpf_asm.proofs.laws.bases_do_not_matter.Goals as goal

pub returns : goal.returns
returns c = numbers_alike
