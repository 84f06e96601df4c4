use Rattle.std.proofs.Common.{◌≡◌, ◌≤◌, length, take, map, vec_len, vec_capacity}
use Rattle.bpf_profile.specs.SpellingFaults.{slot_at}
use Rattle.bpf_decode.proofs.reading.slots_of.Given as goal

abbrev pub invariant-loop-chunk : goal.invariant-loop-chunk
invariant-loop-chunk l = (l.slots.items ≡ map slot_at (take l.chunk-index l.chunks)) × (vec_len l.slots ≡ l.chunk-index) × (length l.chunks ≤ vec_capacity l.slots)
