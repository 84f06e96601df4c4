use Rattle.bpf_profile.specs.Outcomes.{shortened}
use Rattle.bpf_profile.proofs.Contexts.{agrees_with_shortened, context_decides}
use Rattle.bpf_profile.proofs.laws.longer_records_change_nothing.Goals as goal

pub returns : goal.returns
returns c = λ size slots outcome v steps. context_decides size slots outcome (shortened size outcome) v steps (agrees_with_shortened size outcome)
