use Rattle.std.proofs.Common.{◌≡◌, ◌-◌}
use Rattle.replay.specs.Lines.{SaysTheSame, LosesLines}
use Rattle.replay.proofs.lines.next_line.Given as goal

-- lines of blanks were passed over, no read failed, and none met the end
abbrev pub invariant-blanks : goal.invariant-blanks
invariant-blanks g l = record {
  same : SaysTheSame (g.R.Read.remaining l.fn.reader.inner) (g.R.Read.remaining l.reader.inner);
  lost : LosesLines l.passed (g.R.Read.remaining l.fn.reader.inner) (g.R.Read.remaining l.reader.inner);
  quiet : l.reader.failures ≡ l.fn.reader.failures;
  ends : l.reader.ends ≡ l.fn.reader.ends;
}

abbrev pub decreases-blanks : goal.decreases-blanks
decreases-blanks g l = 18446744073709551615 - l.passed
