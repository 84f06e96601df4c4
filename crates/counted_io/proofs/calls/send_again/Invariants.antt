use Rattle.std.specs.Prelude.{◌≡◌, ℕ, suc, List, length, Result}
use Rattle.std.specs.declared.io.Error.{Error}
use Rattle.std.specs.Io.KnownBytes.{Keeps}
use Rattle.std.specs.List.{AllByRecursion}
use Rattle.counted_io.specs.Calls.{Hears, IsInterrupted}
use Rattle.counted_io.proofs.calls.send_again.Given as goal

-- each try so far was interrupted, and wrote nothing
abbrev pub invariant-tries : goal.invariant-tries
invariant-tries g l = record {
  kept : Keeps (g.T.Stream.contents l.fn.stream) (g.T.Stream.contents l.stream);
  apart : g.T.Stream.remaining l.stream ≡ g.T.Stream.remaining l.fn.stream;
  other : g.T.Stream.read_answers l.stream ≡ g.T.Stream.read_answers l.fn.stream;
  tried : (interrupted : List (Result ℕ Error)) × Hears (g.T.Stream.write_answers l.fn.stream) (g.T.Stream.write_answers l.stream) interrupted × AllByRecursion IsInterrupted interrupted × (suc (length interrupted) ≡ l.tried);
}
