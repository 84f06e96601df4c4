use Rattle.event_loop.specs.Lives.{Lingers}
use Rattle.event_loop.proofs.linger.read_on.Given as goal

abbrev pub invariant-pieces : goal.invariant-pieces
invariant-pieces g l = Lingers g.T.Stream.remaining g.T.Stream.contents l.fn.session l.session
