use Rattle.std.proofs.Common.{◌≡◌, Some, refl, sym}
use Rattle.slab.specs.Slab.{get, with_value}
use Rattle.event_loop.proofs.Keeping.{same_slab, turned_kept, turned_left, turned_none, with_here}
use Rattle.event_loop.proofs.hub.serve_key.Goals as goal

pub returns-in_default : goal.returns-in_default
returns-in_default g c = turned_none g.T.Stream.remaining g.T.Stream.contents g.T.Accepted.is_new g.P.Responder.refusal g.P.Responder.responds g.C.Clock.ticks c.args.hub.now c.args.hub.now.connections c.args.state.now c.args.clock.now (g.D.Departures.departed c.args.departures.now) refl

pub returns-then-one-is_due : goal.returns-then-one-is_due
returns-then-one-is_due g c =
    turned_none g.T.Stream.remaining g.T.Stream.contents g.T.Accepted.is_new g.P.Responder.refusal g.P.Responder.responds g.C.Clock.ticks c.args.hub.now (with_value c.args.hub.now.connections c.args.key c.in-Some.one.now) c.args.state.now c.args.clock.now (g.D.Departures.departed c.args.departures.now)
    (same_slab c.args.hub.now.connections c.args.key c.in-Some.one.now (sym c.in-Some.ensures.value))

pub returns-in-Waits : goal.returns-in-Waits
returns-in-Waits g c =
    turned_kept g.T.Stream.remaining g.T.Stream.contents g.T.Accepted.is_new g.P.Responder.refusal g.P.Responder.responds g.C.Clock.ticks c.args.hub.now (record { connections = with_value c.args.hub.now.connections c.args.key _; next = c.args.hub.now.next }) c.args.key c.in-Some.one.now _
    c.args.state.now c.args.clock.now c.serve-served.new.state c.serve-served.new.clock (g.D.Departures.departed c.args.departures.now) (g.D.Departures.departed c.args.departures.now) (sym c.in-Some.ensures.value) refl c.serve-served.ensures.number c.serve-served.ensures.session refl refl

pub returns-in-GoesOn : goal.returns-in-GoesOn
returns-in-GoesOn g c =
    turned_kept g.T.Stream.remaining g.T.Stream.contents g.T.Accepted.is_new g.P.Responder.refusal g.P.Responder.responds g.C.Clock.ticks c.args.hub.now (record { connections = with_value c.args.hub.now.connections c.args.key _; next = c.args.hub.now.next }) c.args.key c.in-Some.one.now _
    c.args.state.now c.args.clock.now c.serve-served.new.state c.serve-served.new.clock (g.D.Departures.departed c.args.departures.now) (g.D.Departures.departed c.args.departures.now) (sym c.in-Some.ensures.value) refl c.serve-served.ensures.number c.serve-served.ensures.session refl refl

pub returns-in-Closed : goal.returns-in-Closed
returns-in-Closed g c =
    let here : get c.args.hub.now.connections c.args.key ≡ Some c.in-Some.one.now = sym c.in-Some.ensures.value in
    let back = record c.serve-served.new.self { goes_on = c.eq-one.result } in
    turned_left g.T.Stream.remaining g.T.Stream.contents g.T.Accepted.is_new g.P.Responder.refusal g.P.Responder.responds g.C.Clock.ticks c.args.hub.now (record { connections = with_value c.args.hub.now.connections c.args.key back; next = c.args.hub.now.next }) c.leave_ended.new.hub c.args.key c.in-Some.one.now back c.in-Closed.end
    c.args.state.now c.args.clock.now c.serve-served.new.state c.serve-served.new.clock (g.D.Departures.departed c.args.departures.now) (g.D.Departures.departed c.leave_ended.new.departures) here refl c.serve-served.ensures.number c.serve-served.ensures.session refl
    (c.leave_ended.ensures back (with_here c.args.hub.now.connections c.args.key c.in-Some.one.now back here))
