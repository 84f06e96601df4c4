use Rattle.std.proofs.Common.{◌≡◌, ◌*◌, ◌<◌}
use Rattle.counted_io.specs.Counts.{CountsNothing}
use Rattle.http_connection.specs.Exchanges.{HasRounds}
use Rattle.http_connection.proofs.turning.turn.Given as goal

-- each round so far went on
abbrev pub invariant-rounds : goal.invariant-rounds
invariant-rounds g l = record {
  gone : HasRounds g.P.Responder.refusal g.P.Responder.responds g.C.Clock.ticks l.counter (l.counter * 2048) (0 < l.counter) l.fn.connection (g.T.Transport.remaining l.fn.transport) l.fn.state l.fn.clock (g.T.Transport.contents l.fn.transport)
      l.connection (g.T.Transport.remaining l.transport) l.state l.clock (g.T.Transport.contents l.transport);
  reader : CountsNothing (g.T.Transport.reads l.fn.transport) (g.T.Transport.reads l.transport);
  lenders : g.T.Transport.lenders l.transport ≡ g.T.Transport.lenders l.fn.transport;
  writer : CountsNothing (g.T.Transport.writes l.fn.transport) (g.T.Transport.writes l.transport);
}
