use Rattle.bpf_asm.proofs.Returning.{canonical_text_returns}
use Rattle.bpf_asm.proofs.laws.canonical_text_returns.Goals as goal

pub returns : goal.returns
returns c = canonical_text_returns
