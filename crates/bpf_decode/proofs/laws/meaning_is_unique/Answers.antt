use Rattle.bpf_decode.proofs.Spelled.{same_slots}
use Rattle.bpf_decode.proofs.laws.meaning_is_unique.Goals as goal

pub returns : goal.returns
returns c = same_slots
