use Rattle.std.proofs.Common.{◌≡◌, ◌≤◌, ◌+◌, ◌-◌, length, drop}
use Rattle.packed_outcomes.specs.Marks.{marks_of, kept_of}
use Rattle.packed_outcomes.proofs.kept.keep.Given as goal

abbrev pub invariant-loop-i : goal.invariant-loop-i
invariant-loop-i l = record {
  marks : l.marks ≡ marks_of (drop (length l.words - l.i) l.words);
  full : length l.room ≡ length l.fn.room;
  kept : drop l.start l.room ≡ kept_of (drop (length l.words - l.i) l.words);
  room : length l.room ≤ l.start + l.i;
  inside : l.start ≤ length l.room;
}
