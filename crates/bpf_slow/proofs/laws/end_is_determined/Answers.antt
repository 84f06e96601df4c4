use Rattle.bpf_slow.proofs.Traces.{one_end}
use Rattle.bpf_slow.proofs.laws.end_is_determined.Goals as goal

pub returns : goal.returns
returns c size limit slots outcome a b p q = one_end size slots outcome limit a b p q
