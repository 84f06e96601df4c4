use Rattle.std.proofs.Common.{◌≡◌}
use Rattle.std.specs.Prelude.{take}
use Rattle.std.specs.Vec.{vec_capacity}
use Rattle.stack_track.proofs.stack.copy_held.Given as goal

-- the cells so far are the others', and there is room for all
abbrev pub invariant-loop-i : goal.invariant-loop-i
invariant-loop-i g l = record {
  copied : l.held.items ≡ take l.i l.others;
  room : vec_capacity l.held ≡ vec_capacity l.initial.held;
}
