use Rattle.std.proofs.Common.{◌≡◌, ◌<◌, ◌≤◌, ℕ, length}
use Rattle.std.specs.Vec.{vec_len, vec_capacity}
use Rattle.stack_track.specs.Cells.{cell_in}
use Rattle.stack_track.proofs.stack.hold.Given as goal

-- the cells so far are as before, and there is room
abbrev pub invariant-loop-next : goal.invariant-loop-next
invariant-loop-next g l = record {
  long : vec_len l.held ≡ l._next;
  few : (most : ℕ) → l.place < most → length l.initial.held.items ≤ most → l._next ≤ most;
  room : vec_capacity l.held ≡ vec_capacity l.initial.held;
  same : (k : ℕ) → cell_in l.held.items k ≡ cell_in l.initial.held.items k;
}
