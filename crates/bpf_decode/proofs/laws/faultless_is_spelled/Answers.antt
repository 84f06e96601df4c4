use Rattle.std.proofs.Common.{◌/◌, length}
use Rattle.bpf_profile.specs.SpellingFaults.{slots_at}
use Rattle.bpf_decode.proofs.Spelled.{none_spelled}
use Rattle.bpf_decode.proofs.laws.faultless_is_spelled.Goals as goal

pub returns : goal.returns
returns c = λ bytes fits none. (slots_at (length bytes / 8) bytes, none_spelled bytes fits none)
