use Rattle.std.proofs.Common.{◌+◌, ap, arith, refl}
use Rattle.slab.specs.Slab.{get}
use Rattle.event_loop.proofs.Keeping.{tended_new, tended_same}
use Rattle.event_loop.proofs.hub.take_in.Goals as goal

pub returns-in-Ok : goal.returns-in-Ok
returns-in-Ok g c =
    tended_new g.T.Stream.remaining g.T.Stream.contents g.T.Accepted.is_new c.args.hub.now c.insert.new.self _ (c.args.hub.now.next + 1) c.new-opened.result (g.D.Departures.departed c.args.departures.now) (g.D.Departures.departed c.args.departures.now) c.in-Ok.ensures.updates c.in-Ok.ensures.was_vacant
    c.new-opened.ensures.number (omega arith) (rw c.new-opened.ensures.session c.requires.stream) (rw c.new-opened.ensures.session c.requires.connection) refl

pub returns-in-Err : goal.returns-in-Err
returns-in-Err g c =
    tended_same g.T.Stream.remaining g.T.Stream.contents g.T.Accepted.is_new c.args.hub.now c.insert.new.self (g.D.Departures.departed c.args.departures.now) (g.D.Departures.departed c.turn_away-in-Err.new.self) (λ key. ap (λ s. get s key) c.in-Err.ensures.err) c.turn_away-in-Err.ensures
