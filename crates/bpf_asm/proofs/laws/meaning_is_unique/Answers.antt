use Rattle.bpf_asm.proofs.Relation.{one_program}
use Rattle.bpf_asm.proofs.laws.meaning_is_unique.Goals as goal

pub returns : goal.returns
returns c = one_program
