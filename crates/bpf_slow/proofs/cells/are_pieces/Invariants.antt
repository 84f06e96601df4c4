use Rattle.std.proofs.Common.{◌≡◌, drop}
use Rattle.bpf_profile.specs.Machine.{are_pieces}
use Rattle.bpf_slow.proofs.cells.are_pieces.Given as goal

-- what is left decides
abbrev pub invariant-loop-k : goal.invariant-loop-k
invariant-loop-k l = are_pieces l.region l.offset l.k (drop l.k l.cells) ≡ are_pieces l.region l.offset 0 l.cells
