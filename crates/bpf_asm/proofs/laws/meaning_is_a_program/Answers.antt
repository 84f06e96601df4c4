use Rattle.bpf_asm.proofs.Assembled.{is_program}
use Rattle.bpf_asm.proofs.laws.meaning_is_a_program.Goals as goal

pub returns : goal.returns
returns c = is_program
