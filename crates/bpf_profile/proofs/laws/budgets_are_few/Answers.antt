use Rattle.bpf_profile.proofs.Budgets.{budget_some, budget_few}
use Rattle.bpf_profile.proofs.laws.budgets_are_few.Goals as goal

pub returns : goal.returns
returns c = record { some = budget_some; few = budget_few }
