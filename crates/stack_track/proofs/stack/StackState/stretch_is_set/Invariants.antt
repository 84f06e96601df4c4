use Rattle.std.proofs.Common.{◌≡◌, ◌+◌, ◌-◌}
use Rattle.stack_track.specs.Accesses.{stretch_is_set}
use Rattle.stack_track.proofs.stack.StackState.stretch_is_set.Given as goal

-- the bytes that are left decide
abbrev pub invariant-loop-i : goal.invariant-loop-i
invariant-loop-i g l = stretch_is_set l.self (l.place + l.i) (l.count - l.i) ≡ stretch_is_set l.self l.place l.count
