use Rattle.event_loop.proofs.Keeping.{tended_on}
use Rattle.event_loop.proofs.accepting.accept_next.Goals as goal

pub returns-in-Ok : goal.returns-in-Ok
returns-in-Ok g c =
    tended_on g.T.Stream.remaining g.T.Stream.contents g.T.Accepted.is_new c.args.hub.now c.take_place.new.hub c.admit.new.hub (g.D.Departures.departed c.args.departures.now) (g.D.Departures.departed c.take_place.new.departures) (g.D.Departures.departed c.admit.new.departures) c.take_place.ensures c.admit.ensures
