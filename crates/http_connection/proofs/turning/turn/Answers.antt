use Rattle.std.proofs.Common.{◌≡◌, ◌+◌, ◌*◌, ◌<◌, refl, ◌∙◌, arith}
use Rattle.http_connection.specs.declared.turned.Turned.TheVariants as turned
use Rattle.http_connection.specs.Exchanges.{HasRounds}
use Rattle.http_connection.proofs.Counting.{nothing_on, turned_on}
use Rattle.http_connection.proofs.Parts.{gone_by, progressed_by, rounds_none, rounds_on, rounds_weaker, within_by}
use Rattle.http_connection.proofs.turning.turn.Goals as goal

pub rounds-init : goal.rounds-init
rounds-init g c = record {
  gone = rounds_weaker g.P.Responder.refusal g.P.Responder.responds g.C.Clock.ticks 0 0 0 0 ⊥ (0 < 0) c.args.connection.now c.args.connection.now
      (g.T.Transport.remaining c.args.transport.now) (g.T.Transport.remaining c.args.transport.now) c.args.state.now c.args.clock.now c.args.state.now c.args.clock.now (g.T.Transport.contents c.args.transport.now) (g.T.Transport.contents c.args.transport.now)
      (rounds_none g.P.Responder.refusal g.P.Responder.responds g.C.Clock.ticks c.args.connection.now (g.T.Transport.remaining c.args.transport.now) c.args.state.now c.args.clock.now (g.T.Transport.contents c.args.transport.now))
      (omega arith) (omega arith) (λ more. omega (arith, more));
  reader = (refl, refl, refl);
  lenders = refl;
  writer = (refl, refl, refl);
}

pub rounds-preserved : goal.rounds-preserved
rounds-preserved g c = record {
  gone = rounds_weaker g.P.Responder.refusal g.P.Responder.responds g.C.Clock.ticks (c.rounds.counter + 1) (c.rounds.counter * 2048 + 2048) (c.rounds.counter + 1) ((c.rounds.counter + 1) * 2048) (c.round.result ≡ turned.GoesOn) (0 < c.rounds.counter + 1) c.args.connection.now c.round.new.connection
      (g.T.Transport.remaining c.args.transport.now) (g.T.Transport.remaining c.round.new.transport) c.args.state.now c.args.clock.now c.round.new.state c.round.new.clock (g.T.Transport.contents c.args.transport.now) (g.T.Transport.contents c.round.new.transport)
      (rounds_on g.P.Responder.refusal g.P.Responder.responds g.C.Clock.ticks c.rounds.counter (c.rounds.counter * 2048) 1 2048 (0 < c.rounds.counter) (c.round.result ≡ turned.GoesOn) c.args.connection.now c.rounds.connection c.round.new.connection
      (g.T.Transport.remaining c.args.transport.now) (g.T.Transport.remaining c.rounds.transport) (g.T.Transport.remaining c.round.new.transport)
      c.args.state.now c.args.clock.now c.rounds.state c.rounds.clock c.round.new.state c.round.new.clock
      (g.T.Transport.contents c.args.transport.now) (g.T.Transport.contents c.rounds.transport) (g.T.Transport.contents c.round.new.transport) c.rounds.invariant.gone c.round.ensures.gone)
      (omega arith) (omega arith) (λ more. c.in-GoesOn.is);
  reader = nothing_on (g.T.Transport.reads c.args.transport.now) (g.T.Transport.reads c.rounds.transport) (g.T.Transport.reads c.round.new.transport) c.rounds.invariant.reader c.in-GoesOn.ensures.turned.0;
  lenders = c.round.ensures.lenders ∙ c.rounds.invariant.lenders;
  writer = nothing_on (g.T.Transport.writes c.args.transport.now) (g.T.Transport.writes c.rounds.transport) (g.T.Transport.writes c.round.new.transport) c.rounds.invariant.writer c.in-GoesOn.ensures.turned.1;
}

pub returns-in_default : goal.returns-in_default
returns-in_default g c =
    let rounds : HasRounds g.P.Responder.refusal g.P.Responder.responds g.C.Clock.ticks 64 131072 (c.round.result ≡ turned.GoesOn) c.args.connection.now (g.T.Transport.remaining c.args.transport.now) c.args.state.now c.args.clock.now (g.T.Transport.contents c.args.transport.now)
    c.round.new.connection (g.T.Transport.remaining c.round.new.transport) c.round.new.state c.round.new.clock (g.T.Transport.contents c.round.new.transport) =
    rounds_weaker g.P.Responder.refusal g.P.Responder.responds g.C.Clock.ticks (c.rounds.counter + 1) (c.rounds.counter * 2048 + 2048) 64 131072 (c.round.result ≡ turned.GoesOn) (c.round.result ≡ turned.GoesOn) c.args.connection.now c.round.new.connection
    (g.T.Transport.remaining c.args.transport.now) (g.T.Transport.remaining c.round.new.transport) c.args.state.now c.args.clock.now c.round.new.state c.round.new.clock (g.T.Transport.contents c.args.transport.now) (g.T.Transport.contents c.round.new.transport)
    (rounds_on g.P.Responder.refusal g.P.Responder.responds g.C.Clock.ticks c.rounds.counter (c.rounds.counter * 2048) 1 2048 (0 < c.rounds.counter) (c.round.result ≡ turned.GoesOn) c.args.connection.now c.rounds.connection c.round.new.connection
    (g.T.Transport.remaining c.args.transport.now) (g.T.Transport.remaining c.rounds.transport) (g.T.Transport.remaining c.round.new.transport)
    c.args.state.now c.args.clock.now c.rounds.state c.rounds.clock c.round.new.state c.round.new.clock
    (g.T.Transport.contents c.args.transport.now) (g.T.Transport.contents c.rounds.transport) (g.T.Transport.contents c.round.new.transport) c.rounds.invariant.gone c.round.ensures.gone)
    (omega (arith, c.rounds-test.true)) (omega (arith, c.rounds-test.true)) (λ goes. goes) in record {
      gone = gone_by g.P.Responder.refusal g.P.Responder.responds g.C.Clock.ticks 64 131072 (c.round.result ≡ turned.GoesOn) c.args.connection.now c.round.new.connection
          (g.T.Transport.remaining c.args.transport.now) (g.T.Transport.remaining c.round.new.transport) c.args.state.now c.args.clock.now c.round.new.state c.round.new.clock (g.T.Transport.contents c.args.transport.now) (g.T.Transport.contents c.round.new.transport) rounds;
      share = within_by g.P.Responder.refusal g.P.Responder.responds g.C.Clock.ticks 64 131072 (c.round.result ≡ turned.GoesOn) c.args.connection.now c.round.new.connection
          (g.T.Transport.remaining c.args.transport.now) (g.T.Transport.remaining c.round.new.transport) c.args.state.now c.args.clock.now c.round.new.state c.round.new.clock (g.T.Transport.contents c.args.transport.now) (g.T.Transport.contents c.round.new.transport) rounds;
      progress = progressed_by g.P.Responder.refusal g.P.Responder.responds g.C.Clock.ticks 64 131072 (c.round.result ≡ turned.GoesOn) c.args.connection.now c.round.new.connection
          (g.T.Transport.remaining c.args.transport.now) (g.T.Transport.remaining c.round.new.transport) c.args.state.now c.args.clock.now c.round.new.state c.round.new.clock (g.T.Transport.contents c.args.transport.now) (g.T.Transport.contents c.round.new.transport) rounds;
      turned = turned_on c.round.result c.round.new.connection (g.T.Transport.remaining c.round.new.transport) (g.T.Transport.reads c.args.transport.now) (g.T.Transport.reads c.rounds.transport) (g.T.Transport.reads c.round.new.transport) (g.T.Transport.writes c.args.transport.now) (g.T.Transport.writes c.rounds.transport) (g.T.Transport.writes c.round.new.transport)
          c.rounds.invariant.reader c.rounds.invariant.writer c.round.ensures.turned;
      lenders = c.round.ensures.lenders ∙ c.rounds.invariant.lenders;
    }

pub returns : goal.returns
returns g c =
    let rounds : HasRounds g.P.Responder.refusal g.P.Responder.responds g.C.Clock.ticks 64 131072 (turned.GoesOn ≡ turned.GoesOn) c.args.connection.now (g.T.Transport.remaining c.args.transport.now) c.args.state.now c.args.clock.now (g.T.Transport.contents c.args.transport.now)
    c.rounds.connection (g.T.Transport.remaining c.rounds.transport) c.rounds.state c.rounds.clock (g.T.Transport.contents c.rounds.transport) =
    rounds_weaker g.P.Responder.refusal g.P.Responder.responds g.C.Clock.ticks c.rounds.counter (c.rounds.counter * 2048) 64 131072 (0 < c.rounds.counter) (turned.GoesOn ≡ turned.GoesOn) c.args.connection.now c.rounds.connection
    (g.T.Transport.remaining c.args.transport.now) (g.T.Transport.remaining c.rounds.transport) c.args.state.now c.args.clock.now c.rounds.state c.rounds.clock (g.T.Transport.contents c.args.transport.now) (g.T.Transport.contents c.rounds.transport)
    c.rounds.invariant.gone (omega (arith, c.rounds.auto.counter-end)) (omega (arith, c.rounds.auto.counter-end)) (λ goes. omega (arith, c.rounds-test.false)) in record {
      gone = gone_by g.P.Responder.refusal g.P.Responder.responds g.C.Clock.ticks 64 131072 (turned.GoesOn ≡ turned.GoesOn) c.args.connection.now c.rounds.connection
          (g.T.Transport.remaining c.args.transport.now) (g.T.Transport.remaining c.rounds.transport) c.args.state.now c.args.clock.now c.rounds.state c.rounds.clock (g.T.Transport.contents c.args.transport.now) (g.T.Transport.contents c.rounds.transport) rounds;
      share = within_by g.P.Responder.refusal g.P.Responder.responds g.C.Clock.ticks 64 131072 (turned.GoesOn ≡ turned.GoesOn) c.args.connection.now c.rounds.connection
          (g.T.Transport.remaining c.args.transport.now) (g.T.Transport.remaining c.rounds.transport) c.args.state.now c.args.clock.now c.rounds.state c.rounds.clock (g.T.Transport.contents c.args.transport.now) (g.T.Transport.contents c.rounds.transport) rounds;
      progress = progressed_by g.P.Responder.refusal g.P.Responder.responds g.C.Clock.ticks 64 131072 (turned.GoesOn ≡ turned.GoesOn) c.args.connection.now c.rounds.connection
          (g.T.Transport.remaining c.args.transport.now) (g.T.Transport.remaining c.rounds.transport) c.args.state.now c.args.clock.now c.rounds.state c.rounds.clock (g.T.Transport.contents c.args.transport.now) (g.T.Transport.contents c.rounds.transport) rounds;
      turned = (c.rounds.invariant.reader, c.rounds.invariant.writer);
      lenders = c.rounds.invariant.lenders;
    }
