use Rattle.bpf_profile.proofs.Results.{arithmetic_fits}
use Rattle.bpf_profile.proofs.laws.results_fit.Goals as goal

pub returns : goal.returns
returns c = arithmetic_fits
