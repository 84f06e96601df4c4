use Rattle.bpf_asm.proofs.Leniency.{comment_is_ignored}
use Rattle.bpf_asm.proofs.laws.comments_do_not_matter.Goals as goal

pub returns : goal.returns
returns c = comment_is_ignored
