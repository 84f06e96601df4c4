use Rattle.std.proofs.Common.{◌≡◌, ◌≤◌, ◌-◌, length, take}
use Rattle.std.specs.Io.KnownBytes.{Appends}
use Rattle.counted_io.proofs.counted.Counted.send.Given as goal

-- the first bytes went out, no write failed, and no end was met
abbrev pub invariant-pieces : goal.invariant-pieces
invariant-pieces g l = record {
  within : l.sent ≤ length l.text;
  written : Appends (g.W.Write.contents l.fn.self.inner) (g.W.Write.contents l.self.inner) (take l.sent l.text);
  quiet : l.self.failures ≡ l.fn.self.failures;
  ends : l.self.ends ≡ l.fn.self.ends;
}

abbrev pub decreases-pieces : goal.decreases-pieces
decreases-pieces g l = length l.text - l.sent
