use Rattle.std.proofs.Common.{◌≡◌, ◌-◌, vec_len}
use Rattle.std.specs.Io.KnownBytes.{Consumes}
use Rattle.classifier_commands.proofs.input.read_all.Given as goal

-- these bytes were taken, no read failed, and none met the end
abbrev pub invariant-bytes : goal.invariant-bytes
invariant-bytes g l = record {
  taken : Consumes (g.R.Read.remaining l.fn.reader.inner) (g.R.Read.remaining l.reader.inner) l.text.items;
  quiet : l.reader.failures ≡ l.fn.reader.failures;
  ends : l.reader.ends ≡ l.fn.reader.ends;
}

-- a vector has a length
abbrev pub decreases-bytes : goal.decreases-bytes
decreases-bytes g l = 18446744073709551615 - vec_len l.text
