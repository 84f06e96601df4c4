use Rattle.std.proofs.Common.{◌≡◌, ◌≤◌, None}
use Rattle.std.specs.Prelude.{replicate}
use Rattle.std.specs.Vec.{vec_capacity}
use Rattle.verifier.proofs.nones.nones.Given as goal

-- so many are there, and there is room for the others
abbrev pub invariant-loop-place : goal.invariant-loop-place
invariant-loop-place g l = record {
  nones : l.list.items ≡ replicate l._place None;
  room : l.count ≤ vec_capacity l.list;
}
