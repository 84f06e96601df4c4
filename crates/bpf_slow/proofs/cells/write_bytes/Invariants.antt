use Rattle.std.proofs.Common.{◌≡◌, map, take, length}
use Rattle.bpf_profile.specs.declared.machine.Cell.TheVariants as cell
use Rattle.bpf_slow.proofs.cells.write_bytes.Given as goal

abbrev pub invariant-loop-i : goal.invariant-loop-i
invariant-loop-i l = record {
  size : length l.room ≡ length l.bytes;
  written : take l.i l.room ≡ map cell.Byte (take l.i l.bytes);
}
