use Rattle.std.proofs.Common.{◌≡◌, ◌<◌, ℕ, List, drop, length, rules, arith}
use Rattle.http_connection.specs.Serving.{IsUnfinished}
use Rattle.http_connection.specs.declared.answering.Answered.TheVariants as answered
use Rattle.http_connection.specs.declared.turned.Turned.TheVariants as turned
use Rattle.http_connection.specs.Connections.{ConnectionData}
use Rattle.http_connection.proofs.Counting.{same_counts, turned_on}
use Rattle.http_connection.proofs.Parts.{rounds_behind_write, rounds_by_answer, rounds_by_read, rounds_of_write, rounds_on, rounds_weaker}
use Rattle.http_connection.proofs.Reading.{ended_apart, longer_by, none_or_some, read_by, turned_by_read, waits_apart}
use Rattle.http_connection.proofs.rounds.round.Goals as goal

pub returns-in-Part-clause-gone : goal.returns-in-Part-clause-gone
returns-in-Part-clause-gone g c = rw c.write_pending.ensures.apart (
    rounds_of_write g.P.Responder.refusal g.P.Responder.responds g.C.Clock.ticks _ c.args.connection.now c.write_pending.new.connection (g.T.Transport.remaining c.args.transport.now) c.args.state.now c.args.clock.now (g.T.Transport.contents c.args.transport.now) (g.T.Transport.contents c.write_pending.new.transport)
    c.write_pending.ensures.stage c.write_pending.ensures.unread c.write_pending.ensures.answers c.write_pending.ensures.sent (λ goes. waits_apart goes))

pub returns-in-Failed-clause-gone : goal.returns-in-Failed-clause-gone
returns-in-Failed-clause-gone g c = rw c.write_pending.ensures.apart (
    rounds_of_write g.P.Responder.refusal g.P.Responder.responds g.C.Clock.ticks _ c.args.connection.now c.write_pending.new.connection (g.T.Transport.remaining c.args.transport.now) c.args.state.now c.args.clock.now (g.T.Transport.contents c.args.transport.now) (g.T.Transport.contents c.write_pending.new.transport)
    c.write_pending.ensures.stage c.write_pending.ensures.unread c.write_pending.ensures.answers c.write_pending.ensures.sent (λ goes. ended_apart goes))

pub returns-in-Last-clause-gone : goal.returns-in-Last-clause-gone
returns-in-Last-clause-gone g c = rw c.write_pending.ensures.apart (
    rounds_of_write g.P.Responder.refusal g.P.Responder.responds g.C.Clock.ticks _ c.args.connection.now c.write_pending.new.connection (g.T.Transport.remaining c.args.transport.now) c.args.state.now c.args.clock.now (g.T.Transport.contents c.args.transport.now) (g.T.Transport.contents c.write_pending.new.transport)
    c.write_pending.ensures.stage c.write_pending.ensures.unread c.write_pending.ensures.answers c.write_pending.ensures.sent (λ goes. ended_apart goes))

pub returns-in-Lost-clause-gone : goal.returns-in-Lost-clause-gone
returns-in-Lost-clause-gone g c = rw c.write_pending.ensures.apart (
    rounds_of_write g.P.Responder.refusal g.P.Responder.responds g.C.Clock.ticks _ c.args.connection.now c.write_pending.new.connection (g.T.Transport.remaining c.args.transport.now) c.args.state.now c.args.clock.now (g.T.Transport.contents c.args.transport.now) (g.T.Transport.contents c.write_pending.new.transport)
    c.write_pending.ensures.stage c.write_pending.ensures.unread c.write_pending.ensures.answers c.write_pending.ensures.sent (λ goes. ended_apart goes))

pub returns-in-Yes-clause-gone : goal.returns-in-Yes-clause-gone
returns-in-Yes-clause-gone g c = rw c.write_pending.ensures.apart (
    rounds_behind_write g.P.Responder.refusal g.P.Responder.responds g.C.Clock.ticks (turned.GoesOn ≡ turned.GoesOn) c.args.connection.now c.write_pending.new.connection c.answer_next.new.connection (g.T.Transport.remaining c.args.transport.now) (g.T.Transport.remaining c.args.transport.now) c.args.state.now c.args.clock.now c.answer_next.new.state c.answer_next.new.clock (g.T.Transport.contents c.args.transport.now) (g.T.Transport.contents c.write_pending.new.transport)
    c.write_pending.ensures.stage c.write_pending.ensures.unread c.write_pending.ensures.answers c.write_pending.ensures.sent
    (rounds_weaker g.P.Responder.refusal g.P.Responder.responds g.C.Clock.ticks 1 0 1 2048 (c.answer_next.result ≡ answered.Yes) (turned.GoesOn ≡ turned.GoesOn) c.write_pending.new.connection c.answer_next.new.connection
    (g.T.Transport.remaining c.args.transport.now) (g.T.Transport.remaining c.args.transport.now) c.args.state.now c.args.clock.now c.answer_next.new.state c.answer_next.new.clock (g.T.Transport.contents c.write_pending.new.transport) (g.T.Transport.contents c.write_pending.new.transport)
    (rounds_by_answer g.P.Responder.refusal g.P.Responder.responds g.C.Clock.ticks c.write_pending.new.connection c.answer_next.new.connection c.answer_next.result (g.T.Transport.remaining c.args.transport.now)
    c.args.state.now c.args.clock.now c.answer_next.new.state c.answer_next.new.clock (g.T.Transport.contents c.write_pending.new.transport) (search rules) (search rules) c.answer_next.ensures)
    (omega arith) (omega arith) (λ goes. c.in-Yes.is)))

pub returns-in-NoMemory-clause-gone : goal.returns-in-NoMemory-clause-gone
returns-in-NoMemory-clause-gone g c = rw c.write_pending.ensures.apart (
    rounds_behind_write g.P.Responder.refusal g.P.Responder.responds g.C.Clock.ticks _ c.args.connection.now c.write_pending.new.connection c.answer_next.new.connection (g.T.Transport.remaining c.args.transport.now) (g.T.Transport.remaining c.args.transport.now) c.args.state.now c.args.clock.now c.answer_next.new.state c.answer_next.new.clock (g.T.Transport.contents c.args.transport.now) (g.T.Transport.contents c.write_pending.new.transport)
    c.write_pending.ensures.stage c.write_pending.ensures.unread c.write_pending.ensures.answers c.write_pending.ensures.sent
    (rounds_weaker g.P.Responder.refusal g.P.Responder.responds g.C.Clock.ticks 1 0 1 2048 (c.answer_next.result ≡ answered.Yes) _ c.write_pending.new.connection c.answer_next.new.connection
    (g.T.Transport.remaining c.args.transport.now) (g.T.Transport.remaining c.args.transport.now) c.args.state.now c.args.clock.now c.answer_next.new.state c.answer_next.new.clock (g.T.Transport.contents c.write_pending.new.transport) (g.T.Transport.contents c.write_pending.new.transport)
    (rounds_by_answer g.P.Responder.refusal g.P.Responder.responds g.C.Clock.ticks c.write_pending.new.connection c.answer_next.new.connection c.answer_next.result (g.T.Transport.remaining c.args.transport.now)
    c.args.state.now c.args.clock.now c.answer_next.new.state c.answer_next.new.clock (g.T.Transport.contents c.write_pending.new.transport) (search rules) (search rules) c.answer_next.ensures)
    (omega arith) (omega arith) (λ goes. absurd (ended_apart goes))))

pub returns-clause-gone : goal.returns-clause-gone
returns-clause-gone g c =
    let same : ◌≡◌ {A = List ℕ} c.connection-2.inside.unread.items c.answer_next.new.connection.unread = search rules in
    let read : ConnectionData = record { stage = c.connection-2.inside.stage; unread = c.fill-filled.new.unread.items; pending = drop c.connection-2.inside.sent c.connection-2.inside.text.items; answers = c.connection-2.inside.answers } in
    let longer : Type 0 = length c.answer_next.new.connection.unread < length c.fill-filled.new.unread.items in
    rw c.fill-filled.ensures.apart (rounds_behind_write g.P.Responder.refusal g.P.Responder.responds g.C.Clock.ticks (c.turned_by.result ≡ turned.GoesOn) c.args.connection.now c.write_pending.new.connection read (g.T.Transport.remaining c.args.transport.now) (g.T.Transport.remaining c.fill-filled.new.transport) c.args.state.now c.args.clock.now c.answer_next.new.state c.answer_next.new.clock (g.T.Transport.contents c.args.transport.now) (g.T.Transport.contents c.write_pending.new.transport)
    c.write_pending.ensures.stage c.write_pending.ensures.unread c.write_pending.ensures.answers c.write_pending.ensures.sent
    (rounds_weaker g.P.Responder.refusal g.P.Responder.responds g.C.Clock.ticks 1 2048 1 2048 longer (c.turned_by.result ≡ turned.GoesOn) c.write_pending.new.connection read (g.T.Transport.remaining c.args.transport.now) (g.T.Transport.remaining c.fill-filled.new.transport) c.args.state.now c.args.clock.now c.answer_next.new.state c.answer_next.new.clock (g.T.Transport.contents c.write_pending.new.transport) (g.T.Transport.contents c.write_pending.new.transport)
    (rounds_on g.P.Responder.refusal g.P.Responder.responds g.C.Clock.ticks 1 0 0 2048 (c.answer_next.result ≡ answered.Yes) longer c.write_pending.new.connection c.answer_next.new.connection read (g.T.Transport.remaining c.args.transport.now) (g.T.Transport.remaining c.args.transport.now) (g.T.Transport.remaining c.fill-filled.new.transport) c.args.state.now c.args.clock.now c.answer_next.new.state c.answer_next.new.clock c.answer_next.new.state c.answer_next.new.clock (g.T.Transport.contents c.write_pending.new.transport) (g.T.Transport.contents c.write_pending.new.transport) (g.T.Transport.contents c.write_pending.new.transport)
    (rounds_by_answer g.P.Responder.refusal g.P.Responder.responds g.C.Clock.ticks c.write_pending.new.connection c.answer_next.new.connection c.answer_next.result (g.T.Transport.remaining c.args.transport.now)
    c.args.state.now c.args.clock.now c.answer_next.new.state c.answer_next.new.clock (g.T.Transport.contents c.write_pending.new.transport) (search rules) (search rules) c.answer_next.ensures)
    (rounds_by_read g.P.Responder.refusal g.P.Responder.responds g.C.Clock.ticks c.answer_next.new.connection read 2048 (g.T.Transport.remaining c.args.transport.now) (g.T.Transport.remaining c.fill-filled.new.transport) c.answer_next.new.state c.answer_next.new.clock (g.T.Transport.contents c.write_pending.new.transport)
    c.in-Incomplete.ensures.7.0 c.in-Incomplete.ensures.7.2 c.in-Incomplete.ensures.7.1 (search rules) (search rules) (search rules) (rw (same, c.write_pending.ensures.apart) at c.fill-filled.ensures.read) (rw same at c.fill-filled.ensures.most) (omega arith)))
    (omega arith) (omega arith)
    (longer_by c.fill-filled.result c.is_empty.result c.turned_by.result c.answer_next.new.connection.unread c.fill-filled.new.unread.items (g.T.Transport.remaining c.fill-filled.new.transport) (g.T.Transport.reads c.write_pending.new.transport) (g.T.Transport.reads c.fill-filled.new.transport)
    c.turned_by.ensures (rw same at c.fill-filled.ensures.filled))))

pub returns-clause-turned : goal.returns-clause-turned
returns-clause-turned g c =
    let same : ◌≡◌ {A = List ℕ} c.connection-2.inside.unread.items c.answer_next.new.connection.unread = search rules in
    let stands = c.in-Incomplete.ensures.7 in
    let part : IsUnfinished c.connection-2.inside.unread.items = rw same stands.1 in
    let after : ConnectionData = record { stage = c.connection-2.inside.stage; unread = c.fill-filled.new.unread.items; pending = drop c.connection-2.inside.sent c.connection-2.inside.text.items; answers = c.connection-2.inside.answers } in
    turned_on c.turned_by.result after (g.T.Transport.remaining c.fill-filled.new.transport) (g.T.Transport.reads c.args.transport.now) (g.T.Transport.reads c.write_pending.new.transport) (g.T.Transport.reads c.fill-filled.new.transport) (g.T.Transport.writes c.args.transport.now) (g.T.Transport.writes c.write_pending.new.transport) (g.T.Transport.writes c.fill-filled.new.transport)
    (same_counts (g.T.Transport.reads c.args.transport.now) (g.T.Transport.reads c.write_pending.new.transport) c.write_pending.ensures.reads) (search rules)
    (turned_by_read c.turned_by.result after (g.T.Transport.remaining c.fill-filled.new.transport) (g.T.Transport.reads c.write_pending.new.transport) (g.T.Transport.reads c.fill-filled.new.transport) (g.T.Transport.writes c.write_pending.new.transport) (g.T.Transport.writes c.fill-filled.new.transport)
    (rw c.turned_by.ensures (read_by c.fill-filled.result c.is_empty.result c.connection-2.inside.unread.items after
    (g.T.Transport.remaining c.fill-filled.new.transport) (g.T.Transport.reads c.write_pending.new.transport) (g.T.Transport.reads c.fill-filled.new.transport) (search rules) (search rules) part
    (none_or_some c.is_empty.result c.fill-filled.new.unread.items (search rules)) c.fill-filled.ensures.filled))
    (same_counts (g.T.Transport.writes c.write_pending.new.transport) (g.T.Transport.writes c.fill-filled.new.transport) c.fill-filled.ensures.writes))
