use Rattle.std.proofs.Common.{◌≡◌, ◌≤◌, ◌*◌, length, take, vec_len, vec_capacity}
use Rattle.std.specs.List.{flat_map}
use Rattle.bpf_profile.specs.Spelling.{slot_bytes}
use Rattle.bpf_decode.proofs.program.Program.encode.Given as goal

abbrev pub invariant-loop-slot : goal.invariant-loop-slot
invariant-loop-slot l = (l.bytes.items ≡ flat_map slot_bytes (take l.slot-index l.slot-items)) × (vec_len l.bytes ≡ 8 * l.slot-index) × (8 * length l.slot-items ≤ vec_capacity l.bytes)
