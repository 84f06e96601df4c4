use Rattle.std.proofs.Common.{ℕ, sym, subst}
use Rattle.bpf_profile.specs.Meaning.{Ends}
use Rattle.bpf_profile.proofs.Runs.{named_answer}
use Rattle.bpf_profile.proofs.laws.safe_programs_judge.Goals as goal

pub returns : goal.returns
returns c size budget slots outcome safe is =
    let end = safe.ends outcome is in
    let named = named_answer end.0 end.2 in
    (named.0, end.1, end.3, subst (λ (n : ℕ). Ends size slots outcome n end.1) (sym named.1) end.4)
