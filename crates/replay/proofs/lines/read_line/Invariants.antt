use Rattle.std.proofs.Common.{◌≡◌, ◌-◌, false, vec_len}
use Rattle.replay.specs.Ends.{has_feed}
use Rattle.replay.proofs.Taking.{HasBegun}
use Rattle.replay.proofs.lines.read_line.Given as goal

-- the line has begun and has no line feed, no read failed, and none met the end
abbrev pub invariant-bytes : goal.invariant-bytes
invariant-bytes g l = record {
  begun : HasBegun (g.R.Read.remaining l.fn.reader.inner) (g.R.Read.remaining l.reader.inner) l.line.items;
  quiet : l.reader.failures ≡ l.fn.reader.failures;
  ends : l.reader.ends ≡ l.fn.reader.ends;
  plain : has_feed l.line.items ≡ false;
}

-- a vector has a length
abbrev pub decreases-bytes : goal.decreases-bytes
decreases-bytes g l = 18446744073709551615 - vec_len l.line
