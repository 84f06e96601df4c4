use Rattle.event_loop.proofs.Keeping.{tended_known}
use Rattle.event_loop.proofs.accepting.admit.Goals as goal

pub returns-then-is_err : goal.returns-then-is_err
returns-then-is_err g c = tended_known g.T.Stream.remaining g.T.Stream.contents g.T.Accepted.is_new c.args.hub.now (g.D.Departures.departed c.args.departures.now) (g.D.Departures.departed c.turn_away.new.self) c.turn_away.ensures
