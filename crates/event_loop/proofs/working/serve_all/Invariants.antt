use Rattle.event_loop.specs.Hubs.{Keeps}
use Rattle.event_loop.proofs.working.serve_all.Given as goal

abbrev pub invariant-rounds : goal.invariant-rounds
invariant-rounds g l = Keeps g.T.Stream.remaining g.T.Stream.contents g.T.Accepted.is_new g.P.Responder.refusal g.P.Responder.responds g.C.Clock.ticks l.fn.state l.fn.clock (g.D.Departures.departed l.fn.departures) l.hub l.state l.clock (g.D.Departures.departed l.departures)

abbrev pub invariant-events : goal.invariant-events
invariant-events g l = Keeps g.T.Stream.remaining g.T.Stream.contents g.T.Accepted.is_new g.P.Responder.refusal g.P.Responder.responds g.C.Clock.ticks l.fn.state l.fn.clock (g.D.Departures.departed l.fn.departures) l.hub l.state l.clock (g.D.Departures.departed l.departures)

abbrev pub invariant-keys : goal.invariant-keys
invariant-keys g l = Keeps g.T.Stream.remaining g.T.Stream.contents g.T.Accepted.is_new g.P.Responder.refusal g.P.Responder.responds g.C.Clock.ticks l.fn.state l.fn.clock (g.D.Departures.departed l.fn.departures) l.hub l.state l.clock (g.D.Departures.departed l.departures)
