use Rattle.std.proofs.Common.{◌≡◌, ◌+◌, ◌-◌}
use Rattle.stack_track.specs.Accesses.{stretch_written}
use Rattle.stack_track.proofs.stack.StackState.write_stretch.Given as goal

-- the bytes that are left are written to what stands now
abbrev pub invariant-loop-i : goal.invariant-loop-i
invariant-loop-i g l = stretch_written l.self (l.place + l.i) (l.count - l.i) ≡ stretch_written l.initial.self l.place l.count
