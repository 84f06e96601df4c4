use Rattle.bpf_profile.proofs.Contexts.{context_decides}
use Rattle.bpf_profile.proofs.laws.context_decides.Goals as goal

pub returns : goal.returns
returns c = λ size slots left right v steps agree. context_decides size slots left right v steps agree
