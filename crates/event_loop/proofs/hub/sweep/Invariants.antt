use Rattle.event_loop.specs.Hubs.{HasTended}
use Rattle.event_loop.proofs.hub.sweep.Given as goal

abbrev pub invariant-keys : goal.invariant-keys
invariant-keys g l = HasTended g.T.Stream.remaining g.T.Stream.contents g.T.Accepted.is_new l.fn.hub (g.D.Departures.departed l.fn.departures) l.hub (g.D.Departures.departed l.departures)
