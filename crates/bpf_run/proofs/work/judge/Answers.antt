use Rattle.std.proofs.Common.{rules}
use Rattle.bpf_run.proofs.work.judge.Goals as goal

pub invariant_of-result : goal.invariant_of-result
invariant_of-result c = search rules

pub returns-clause-tied : goal.returns-clause-tied
returns-clause-tied c = search rules
