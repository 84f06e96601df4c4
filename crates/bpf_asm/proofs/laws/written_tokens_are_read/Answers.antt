use Rattle.bpf_asm.proofs.Written.{written, read_from_written}
use Rattle.bpf_asm.proofs.laws.written_tokens_are_read.Goals as goal

pub returns : goal.returns
returns c = λ line tokens. (written line tokens, read_from_written line tokens)
