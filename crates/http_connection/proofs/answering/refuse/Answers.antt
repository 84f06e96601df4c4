use Rattle.std.proofs.Common.{refl, rules}
use Rattle.http_connection.specs.declared.stage.Stage.TheVariants as stage
use Rattle.http_connection.proofs.Going.{is_refused}
use Rattle.http_connection.proofs.answering.refuse.Goals as goal

pub returns : goal.returns
returns g c =
    is_refused g.P.Responder.refusal g.P.Responder.responds g.C.Clock.ticks c.args.connection.now
    (record { stage = stage.Last; unread = c.connection.inside.unread.items; pending = c.refuse.new.text.items; answers = c.connection.inside.answers })
    c.args.fault c.args.state.now c.args.clock.now c.requires.faulty refl (search rules) (search rules) (search rules)
