use Rattle.std.proofs.Common.{◌≡◌}
use Rattle.flow_check.specs.Passes.{AreEntered}
use Rattle.verifier.specs.Width.{count_from}
use Rattle.verifier.proofs.Marked.{IsWidest}
use Rattle.verifier.proofs.width.most_awaited.Given as goal

-- the slots so far have marked where their edges lead, and the marks from there on are counted
abbrev pub invariant-loop-place : goal.invariant-loop-place
invariant-loop-place l = record {
  entered : AreEntered l.slots l.place l.marks;
  counted : l.awaited ≡ count_from l.place l.marks;
  widest : IsWidest l.slots l.place l.width;
}
