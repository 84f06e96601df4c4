use Rattle.std.proofs.Common.{refl}
use Rattle.http_connection.specs.declared.turned.Turned.TheVariants as turned
use Rattle.http_connection.specs.Blocking.{blocking_counts}
use Rattle.http_connection.specs.Connections.{new_connection}
use Rattle.http_connection.specs.Ends.{IsTurned}
use Rattle.http_connection.specs.Exchanges.{HasGone}
use Rattle.http_connection.proofs.Alone.{gone_on, lived}
use Rattle.http_connection.proofs.Counting.{nothing_on, turned_on}
use Rattle.http_connection.proofs.Ending.{cause_by, closed_by, ends_by, truncated_by}
use Rattle.http_connection.proofs.Parts.{gone_by, rounds_none}
use Rattle.http_connection.proofs.Served.{served}
use Rattle.http_connection.proofs.serving.serve.Goals as goal

pub turns-init : goal.turns-init
turns-init g c = record {
  gone = rw c.new-connection.ensures (gone_by g.P.Responder.refusal g.P.Responder.responds g.C.Clock.ticks 0 0 ⊥ new_connection new_connection
      (g.R.Read.remaining c.args.reader.now.inner) (g.R.Read.remaining c.args.reader.now.inner) c.args.state.now c.args.clock.now c.args.state.now c.args.clock.now (g.W.Write.contents c.args.writer.now.inner) (g.W.Write.contents c.args.writer.now.inner)
      (rounds_none g.P.Responder.refusal g.P.Responder.responds g.C.Clock.ticks new_connection (g.R.Read.remaining c.args.reader.now.inner) c.args.state.now c.args.clock.now (g.W.Write.contents c.args.writer.now.inner)));
  reader = (refl, refl, refl);
  writer = (refl, refl, refl);
}

pub turns-preserved : goal.turns-preserved
turns-preserved g c = record {
  gone = gone_on g.P.Responder.refusal g.P.Responder.responds g.C.Clock.ticks new_connection c.turns.connection c.turn_over.new.connection
      (g.R.Read.remaining c.args.reader.now.inner) (g.R.Read.remaining c.turns.reader.inner) (g.R.Read.remaining c.turn_over.new.reader.inner)
      c.args.state.now c.turns.state c.turn_over.new.state c.args.clock.now c.turns.clock c.turn_over.new.clock
      (g.W.Write.contents c.args.writer.now.inner) (g.W.Write.contents c.turns.writer.inner) (g.W.Write.contents c.turn_over.new.writer.inner)
      c.turns.invariant.gone c.turn_over.ensures.gone;
  reader = nothing_on (blocking_counts c.args.reader.now) (blocking_counts c.turns.reader) (blocking_counts c.turn_over.new.reader) c.turns.invariant.reader c.in-GoesOn.ensures.turned.0;
  writer = nothing_on (blocking_counts c.args.writer.now) (blocking_counts c.turns.writer) (blocking_counts c.turn_over.new.writer) c.turns.invariant.writer c.in-GoesOn.ensures.turned.1;
}

pub returns-in-Ended : goal.returns-in-Ended
returns-in-Ended g c =
    let gone : HasGone g.P.Responder.refusal g.P.Responder.responds g.C.Clock.ticks new_connection (g.R.Read.remaining c.args.reader.now.inner) c.args.state.now c.args.clock.now (g.W.Write.contents c.args.writer.now.inner)
    c.turn_over.new.connection (g.R.Read.remaining c.turn_over.new.reader.inner) c.turn_over.new.state c.turn_over.new.clock (g.W.Write.contents c.turn_over.new.writer.inner) =
    gone_on g.P.Responder.refusal g.P.Responder.responds g.C.Clock.ticks new_connection c.turns.connection c.turn_over.new.connection
    (g.R.Read.remaining c.args.reader.now.inner) (g.R.Read.remaining c.turns.reader.inner) (g.R.Read.remaining c.turn_over.new.reader.inner)
    c.args.state.now c.turns.state c.turn_over.new.state c.args.clock.now c.turns.clock c.turn_over.new.clock
    (g.W.Write.contents c.args.writer.now.inner) (g.W.Write.contents c.turns.writer.inner) (g.W.Write.contents c.turn_over.new.writer.inner)
    c.turns.invariant.gone c.turn_over.ensures.gone in
    let by : IsTurned (turned.Ended c.in-Ended.ended) c.turn_over.new.connection (g.R.Read.remaining c.turn_over.new.reader.inner) (blocking_counts c.args.reader.now) (blocking_counts c.turn_over.new.reader) (blocking_counts c.args.writer.now) (blocking_counts c.turn_over.new.writer) =
    turned_on (turned.Ended c.in-Ended.ended) c.turn_over.new.connection (g.R.Read.remaining c.turn_over.new.reader.inner)
    (blocking_counts c.args.reader.now) (blocking_counts c.turns.reader) (blocking_counts c.turn_over.new.reader) (blocking_counts c.args.writer.now) (blocking_counts c.turns.writer) (blocking_counts c.turn_over.new.writer)
    c.turns.invariant.reader c.turns.invariant.writer c.in-Ended.ensures.turned in record {
      served = served g.P.Responder.refusal g.P.Responder.responds g.C.Clock.ticks c.in-Ended.ended c.turn_over.new.connection (g.R.Read.remaining c.args.reader.now.inner) (g.R.Read.remaining c.turn_over.new.reader.inner)
          c.args.state.now c.turn_over.new.state c.args.clock.now c.turn_over.new.clock (g.W.Write.contents c.args.writer.now.inner) (g.W.Write.contents c.turn_over.new.writer.inner)
          (blocking_counts c.args.reader.now) (blocking_counts c.turn_over.new.reader) (blocking_counts c.args.writer.now) (blocking_counts c.turn_over.new.writer)
          (lived g.P.Responder.refusal g.P.Responder.responds g.C.Clock.ticks c.turn_over.new.connection (g.R.Read.remaining c.args.reader.now.inner) (g.R.Read.remaining c.turn_over.new.reader.inner)
          c.args.state.now c.turn_over.new.state c.args.clock.now c.turn_over.new.clock (g.W.Write.contents c.args.writer.now.inner) (g.W.Write.contents c.turn_over.new.writer.inner) gone) by;
      closed = closed_by c.in-Ended.ended c.turn_over.new.connection (g.R.Read.remaining c.turn_over.new.reader.inner) (blocking_counts c.args.reader.now) (blocking_counts c.turn_over.new.reader) (blocking_counts c.args.writer.now) (blocking_counts c.turn_over.new.writer) by;
      truncated = truncated_by c.in-Ended.ended c.turn_over.new.connection (g.R.Read.remaining c.turn_over.new.reader.inner) (blocking_counts c.args.reader.now) (blocking_counts c.turn_over.new.reader) (blocking_counts c.args.writer.now) (blocking_counts c.turn_over.new.writer) by;
      cause = cause_by c.in-Ended.ended c.turn_over.new.connection (g.R.Read.remaining c.turn_over.new.reader.inner) (blocking_counts c.args.reader.now) (blocking_counts c.turn_over.new.reader) (blocking_counts c.args.writer.now) (blocking_counts c.turn_over.new.writer) by;
      ends = ends_by c.in-Ended.ended c.turn_over.new.connection (g.R.Read.remaining c.turn_over.new.reader.inner) (blocking_counts c.args.reader.now) (blocking_counts c.turn_over.new.reader) (blocking_counts c.args.writer.now) (blocking_counts c.turn_over.new.writer) by;
    }
