use Rattle.bpf_profile.proofs.FirstFaults.{length_law, decoding_law, decoding_none_law}
use Rattle.bpf_profile.proofs.laws.first_fault_is_the_least.Goals as goal

pub returns : goal.returns
returns c = record { bad_length = length_law; some = decoding_law; none = decoding_none_law }
