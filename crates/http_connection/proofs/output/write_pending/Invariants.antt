use Rattle.std.proofs.Common.{◌≡◌, ◌-◌, ◌++◌, ◌≤◌, List, ℕ, length, drop}
use Rattle.std.specs.Io.KnownBytes.{Appends}
use Rattle.counted_io.specs.Counts.{CountsNothing}
use Rattle.http_connection.specs.Reading.{IsAwaited}
use Rattle.http_connection.proofs.output.write_pending.Given as goal

-- a part of what was pending went out, and no call failed or would have had to wait
abbrev pub invariant-pieces : goal.invariant-pieces
invariant-pieces g l = record {
  sent : (sent : List ℕ) × Appends (g.T.Transport.contents l.fn.transport) (g.T.Transport.contents l.transport) sent × (l.fn.connection.pending ≡ sent ++ drop l.connection-inside.sent l.connection-inside.text.items);
  within : l.connection-inside.sent ≤ length l.connection-inside.text.items;
  awaited : IsAwaited l.connection-inside.unread.items l.connection-inside.awaited;
  unread : l.connection-inside.unread.items ≡ l.fn.connection.unread;
  stage : l.connection-inside.stage ≡ l.fn.connection.stage;
  answers : l.connection-inside.answers ≡ l.fn.connection.answers;
  apart : g.T.Transport.remaining l.transport ≡ g.T.Transport.remaining l.fn.transport;
  reads : g.T.Transport.reads l.transport ≡ g.T.Transport.reads l.fn.transport;
  lenders : g.T.Transport.lenders l.transport ≡ g.T.Transport.lenders l.fn.transport;
  quiet : CountsNothing (g.T.Transport.writes l.fn.transport) (g.T.Transport.writes l.transport);
}

abbrev pub decreases-pieces : goal.decreases-pieces
decreases-pieces g l = length l.connection-inside.text.items - l.connection-inside.sent
