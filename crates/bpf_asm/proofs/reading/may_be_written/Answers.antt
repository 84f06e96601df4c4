use Rattle.std.proofs.Common.{rules}
use Rattle.bpf_asm.proofs.reading.may_be_written.Goals as goal

pub returns : goal.returns
returns c = search rules
