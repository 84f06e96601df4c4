use Rattle.event_loop.proofs.Keeping.{tended_none, tended_on}
use Rattle.event_loop.proofs.hub.sweep.Goals as goal

pub keys-init : goal.keys-init
keys-init g c = tended_none g.T.Stream.remaining g.T.Stream.contents g.T.Accepted.is_new c.args.hub.now (g.D.Departures.departed c.args.departures.now)

pub keys-preserved : goal.keys-preserved
keys-preserved g c =
    tended_on g.T.Stream.remaining g.T.Stream.contents g.T.Accepted.is_new c.args.hub.now c.keys.hub c.tend.new.hub (g.D.Departures.departed c.args.departures.now) (g.D.Departures.departed c.keys.departures) (g.D.Departures.departed c.tend.new.departures) c.keys.invariant c.tend.ensures
