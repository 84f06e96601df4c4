use Rattle.bpf_slow.proofs.Traces.{safe_end}
use Rattle.bpf_slow.proofs.laws.safe_programs_are_done.Goals as goal

pub returns : goal.returns
returns c size budget limit slots outcome x safe is h e = safe_end size budget limit slots outcome x safe is h e
