use Rattle.std.proofs.Common.{◌==◌}
use Rattle.bpf_asm.proofs.Lines.{cut_some, cut_none}
use Rattle.bpf_asm.proofs.assembly.cut_line.Goals as goal

pub returns-in-Some : goal.returns-in-Some
returns-in-Some c = cut_some (λ b. b == 10) c.args.text.now c.in-Some.end c.in-Some.ensures

pub returns-in-None : goal.returns-in-None
returns-in-None c = cut_none (λ b. b == 10) c.args.text.now c.in-None.ensures
