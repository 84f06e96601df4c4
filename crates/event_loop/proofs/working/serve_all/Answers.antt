use Rattle.std.proofs.Common.{rules, ◌≡◌}
use Rattle.slab.specs.Slab.{slab_len}
use Rattle.event_loop.proofs.Keeping.{keeps_first, keeps_tended, keeps_turned, lived_at_end}
use Rattle.event_loop.proofs.working.serve_all.Goals as goal

pub rounds-init : goal.rounds-init
rounds-init g c = keeps_first g.T.Stream.remaining g.T.Stream.contents g.T.Accepted.is_new g.P.Responder.refusal g.P.Responder.responds g.C.Clock.ticks c.args.hub.now c.args.state.now c.args.clock.now (g.D.Departures.departed c.args.departures.now) c.requires

pub events-preserved : goal.events-preserved
events-preserved g c =
    keeps_turned g.T.Stream.remaining g.T.Stream.contents g.T.Accepted.is_new g.P.Responder.refusal g.P.Responder.responds g.C.Clock.ticks c.args.state.now c.args.clock.now (g.D.Departures.departed c.args.departures.now) c.events.hub c.serve_key.new.hub c.events.state c.events.clock c.serve_key.new.state c.serve_key.new.clock (g.D.Departures.departed c.events.departures) (g.D.Departures.departed c.serve_key.new.departures) c.events.invariant c.serve_key.ensures

pub keys-preserved : goal.keys-preserved
keys-preserved g c =
    keeps_turned g.T.Stream.remaining g.T.Stream.contents g.T.Accepted.is_new g.P.Responder.refusal g.P.Responder.responds g.C.Clock.ticks c.args.state.now c.args.clock.now (g.D.Departures.departed c.args.departures.now) c.keys.hub c.serve_key-in-keys.new.hub c.keys.state c.keys.clock c.serve_key-in-keys.new.state c.serve_key-in-keys.new.clock (g.D.Departures.departed c.keys.departures) (g.D.Departures.departed c.serve_key-in-keys.new.departures) c.keys.invariant c.serve_key-in-keys.ensures

pub rounds-preserved-then-now-swept : goal.rounds-preserved-then-now-swept
rounds-preserved-then-now-swept g c =
    let first = c.args.state.now in
    let begun = c.args.clock.now in
    let fed = keeps_tended g.T.Stream.remaining g.T.Stream.contents g.T.Accepted.is_new g.P.Responder.refusal g.P.Responder.responds g.C.Clock.ticks first begun (g.D.Departures.departed c.args.departures.now) c.keys.hub c.accept_next.new.hub c.keys.state c.keys.clock (g.D.Departures.departed c.keys.departures) (g.D.Departures.departed c.accept_next.new.departures) c.keys.invariant c.accept_next.ensures in
    keeps_tended g.T.Stream.remaining g.T.Stream.contents g.T.Accepted.is_new g.P.Responder.refusal g.P.Responder.responds g.C.Clock.ticks first begun (g.D.Departures.departed c.args.departures.now) c.accept_next.new.hub c.sweep.new.hub c.keys.state c.keys.clock (g.D.Departures.departed c.accept_next.new.departures) (g.D.Departures.departed c.sweep.new.departures) fed c.sweep.ensures

pub rounds-preserved : goal.rounds-preserved
rounds-preserved g c =
    keeps_tended g.T.Stream.remaining g.T.Stream.contents g.T.Accepted.is_new g.P.Responder.refusal g.P.Responder.responds g.C.Clock.ticks c.args.state.now c.args.clock.now (g.D.Departures.departed c.args.departures.now) c.keys.hub c.accept_next.new.hub c.keys.state c.keys.clock (g.D.Departures.departed c.keys.departures) (g.D.Departures.departed c.accept_next.new.departures) c.keys.invariant c.accept_next.ensures

pub returns-in-rounds-clause-lived : goal.returns-in-rounds-clause-lived
returns-in-rounds-clause-lived g c =
    let none : slab_len c.rounds.hub.connections ≡ 0 = search rules in
    lived_at_end g.T.Stream.remaining g.T.Stream.contents g.T.Accepted.is_new g.P.Responder.refusal g.P.Responder.responds g.C.Clock.ticks c.args.state.now c.args.clock.now (g.D.Departures.departed c.args.departures.now) c.rounds.hub c.rounds.state c.rounds.clock (g.D.Departures.departed c.rounds.departures) c.rounds.invariant none
