use Rattle.std.proofs.Common.{◌≡◌, ◌≤◌, drop, false, length, vec_len, vec_capacity}
use Rattle.bpf_profile.specs.SpellingFaults.{fault_from}
use Rattle.bpf_decode.specs.Kept.{first_instructions}
use Rattle.bpf_decode.proofs.Runs.{Begins}
use Rattle.bpf_decode.proofs.reading.read_slots.Given as goal

-- the faults that are left are those of all slots, and the slots so far are read
abbrev pub invariant-loop-place : goal.invariant-loop-place
invariant-loop-place l = record {
  fault : fault_from l.place l.is_second (drop l.place l.slots) ≡ fault_from 0 false l.slots;
  begins : Begins l.is_second (drop l.place l.slots);
  read : l.instructions.items ≡ first_instructions l.slots l.place;
  sized : vec_len l.instructions ≡ l.place;
  room : length l.slots ≤ vec_capacity l.instructions;
}
