use Rattle.event_loop.proofs.Keeping.{served_by_lives}
use Rattle.event_loop.proofs.working.work.Goals as goal

pub returns-clause-served : goal.returns-clause-served
returns-clause-served g c =
    served_by_lives g.T.Stream.remaining g.T.Stream.contents g.T.Accepted.is_new g.P.Responder.refusal g.P.Responder.responds g.C.Clock.ticks c.args.state.now c.args.clock.now (g.D.Departures.departed c.args.departures.now) c.serve_all.new.state c.serve_all.new.clock (g.D.Departures.departed c.serve_all.new.departures) c.serve_all.ensures.lived
