use Rattle.std.proofs.Common.{[], ◌++◌, refl}
use Rattle.std.proofs.lemmas.List.{append-nil}
use Rattle.event_loop.proofs.Living.{life_linger, life_turn}
use Rattle.event_loop.proofs.opened.Opened.serve.Goals as goal

pub returns-clause-session : goal.returns-clause-session
returns-clause-session g c =
    ([], (refl, refl), λ steps life. rw (append-nil steps) (life_linger g.T.Stream.remaining g.T.Stream.contents g.T.Accepted.is_new g.P.Responder.refusal steps c.args.self.now.session c.linger.new.self.session life c.linger.ensures.session))

pub returns-2-clause-session : goal.returns-2-clause-session
returns-2-clause-session g c =
    let (exchange, is) = c.turn-turned.ensures.gone in (
      exchange.steps,
      is.1,
      λ steps life. life_linger g.T.Stream.remaining g.T.Stream.contents g.T.Accepted.is_new g.P.Responder.refusal (steps ++ exchange.steps) c.turn-turned.new.self c.settle.new.self.session
          (life_turn g.T.Stream.remaining g.T.Stream.contents g.T.Accepted.is_new g.P.Responder.refusal g.P.Responder.responds g.C.Clock.ticks steps c.args.self.now.session c.turn-turned.new.self c.args.state.now c.args.clock.now c.turn-turned.new.state c.turn-turned.new.clock exchange life is)
          c.settle.ensures.session,
    )
