use Rattle.event_loop.proofs.Living.{lingers_none, lingers_on}
use Rattle.event_loop.proofs.linger.read_on.Goals as goal

pub pieces-init : goal.pieces-init
pieces-init g c = lingers_none g.T.Stream.remaining g.T.Stream.contents c.args.session.now

pub pieces-preserved : goal.pieces-preserved
pieces-preserved g c = lingers_on g.T.Stream.remaining g.T.Stream.contents c.args.session.now c.pieces.session c.read_piece.new.session c.pieces.invariant c.read_piece.ensures

pub returns-in_default : goal.returns-in_default
returns-in_default g c = lingers_on g.T.Stream.remaining g.T.Stream.contents c.args.session.now c.pieces.session c.read_piece.new.session c.pieces.invariant c.read_piece.ensures
