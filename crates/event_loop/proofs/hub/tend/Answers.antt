use Rattle.std.proofs.Common.{refl, sym}
use Rattle.event_loop.proofs.Keeping.{tended_back, tended_out}
use Rattle.event_loop.proofs.hub.tend.Goals as goal

pub returns : goal.returns
returns g c =
    tended_back g.T.Stream.remaining g.T.Stream.contents g.T.Accepted.is_new c.args.hub.now c.try_remove.new.self c.insert_reserved.new.self c.args.key c.insert_reserved.result c.in-Some.one c.rest.new.self (g.D.Departures.departed c.args.departures.now) (g.D.Departures.departed c.args.departures.now)
    c.try_remove.ensures.updates (sym c.in-Some.ensures.value) c.insert_reserved.ensures.updates c.insert_reserved.ensures.was_vacant c.rest.ensures.number c.rest.ensures.session refl

pub returns-then-is_over : goal.returns-then-is_over
returns-then-is_over g c =
    tended_out g.T.Stream.remaining g.T.Stream.contents g.T.Accepted.is_new c.args.hub.now c.try_remove.new.self c.args.key c.in-Some.one c.cause-cause.result (g.D.Departures.departed c.args.departures.now) (g.D.Departures.departed c.take.new.self)
    c.try_remove.ensures.updates (sym c.in-Some.ensures.value) c.cause-cause.ensures c.take.ensures
