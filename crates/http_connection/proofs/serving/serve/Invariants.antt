use Rattle.counted_io.specs.Counts.{CountsNothing}
use Rattle.http_connection.specs.Blocking.{blocking_counts}
use Rattle.http_connection.specs.Connections.{new_connection}
use Rattle.http_connection.specs.Exchanges.{HasGone}
use Rattle.http_connection.proofs.serving.serve.Given as goal

-- the turns so far are one exchange of a new connection, and no call failed or met the end
abbrev pub invariant-turns : goal.invariant-turns
invariant-turns g l = record {
  gone : HasGone g.P.Responder.refusal g.P.Responder.responds g.C.Clock.ticks new_connection (g.R.Read.remaining l.fn.reader.inner) l.fn.state l.fn.clock (g.W.Write.contents l.fn.writer.inner)
      l.connection (g.R.Read.remaining l.reader.inner) l.state l.clock (g.W.Write.contents l.writer.inner);
  reader : CountsNothing (blocking_counts l.fn.reader) (blocking_counts l.reader);
  writer : CountsNothing (blocking_counts l.fn.writer) (blocking_counts l.writer);
}
