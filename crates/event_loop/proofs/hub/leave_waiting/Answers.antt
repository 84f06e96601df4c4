use Rattle.std.proofs.Common.{refl, sym}
use Rattle.event_loop.proofs.Keeping.{tended_back, tended_out}
use Rattle.event_loop.proofs.hub.leave_waiting.Goals as goal

pub returns-then-not-awaits_client : goal.returns-then-not-awaits_client
returns-then-not-awaits_client g c =
    tended_back g.T.Stream.remaining g.T.Stream.contents g.T.Accepted.is_new c.args.hub.now c.try_remove.new.self c.insert_reserved.new.self c.args.key c.insert_reserved.result c.in-Some.one c.in-Some.one (g.D.Departures.departed c.args.departures.now) (g.D.Departures.departed c.args.departures.now)
    c.try_remove.ensures.updates (sym c.in-Some.ensures.value) c.insert_reserved.ensures.updates c.insert_reserved.ensures.was_vacant refl refl refl

pub returns : goal.returns
returns g c =
    tended_out g.T.Stream.remaining g.T.Stream.contents g.T.Accepted.is_new c.args.hub.now c.try_remove.new.self c.args.key c.in-Some.one c.cause-cause.result (g.D.Departures.departed c.args.departures.now) (g.D.Departures.departed c.take.new.self)
    c.try_remove.ensures.updates (sym c.in-Some.ensures.value) c.cause-cause.ensures c.take.ensures
