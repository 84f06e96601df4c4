use Rattle.bpf_profile.proofs.Runs.{verdicts_agree}
use Rattle.bpf_profile.proofs.laws.verdict_is_determined.Goals as goal

pub returns : goal.returns
returns c = verdicts_agree
