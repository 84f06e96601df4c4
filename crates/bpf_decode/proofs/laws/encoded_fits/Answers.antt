use Rattle.bpf_decode.proofs.Fits.{first_fits, second_fits}
use Rattle.bpf_decode.proofs.laws.encoded_fits.Goals as goal

pub returns : goal.returns
returns c = λ i h. (first_fits i h, second_fits i h)
