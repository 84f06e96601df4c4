use Rattle.bpf_asm.proofs.Leniency.{blank_behind_an_end, blank_before_an_end, blank_at_the_start, blank_at_the_end}
use Rattle.bpf_asm.proofs.laws.blanks_do_not_matter.Goals as goal

pub returns : goal.returns
returns c = record { behind = blank_behind_an_end; before = blank_before_an_end; at_the_start = blank_at_the_start; at_the_end = blank_at_the_end }
