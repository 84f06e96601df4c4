use Rattle.std.proofs.Common.{◌≡◌, ◌++◌, drop, take, length, option_map, List, ℕ}
use Rattle.bpf_profile.specs.Machine.{cell_bytes}
use Rattle.bpf_slow.proofs.cells.read_bytes.Given as goal

-- the bytes that were read and those that are left are all
abbrev pub invariant-loop-i : goal.invariant-loop-i
invariant-loop-i l = record {
  size : length l.room ≡ length l.cells;
  all : cell_bytes l.cells ≡ option_map (λ (rest : List ℕ). take l.i l.room ++ rest) (cell_bytes (drop l.i l.cells));
}
