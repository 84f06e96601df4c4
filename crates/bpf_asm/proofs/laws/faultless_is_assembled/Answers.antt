use Rattle.bpf_asm.proofs.Relation.{faultless_is_assembled, assembled_is_faultless}
use Rattle.bpf_asm.proofs.laws.faultless_is_assembled.Goals as goal

pub returns : goal.returns
returns c = record { reads = faultless_is_assembled; faultless = assembled_is_faultless }
