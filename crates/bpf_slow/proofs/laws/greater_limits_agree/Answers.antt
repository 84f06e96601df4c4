use Rattle.bpf_slow.proofs.Traces.{longer_trap}
use Rattle.bpf_slow.proofs.laws.greater_limits_agree.Goals as goal

pub returns-clause-trap : goal.returns-clause-trap
returns-clause-trap c size limit greater place reason slots outcome h t = longer_trap size slots outcome limit greater place reason h t
