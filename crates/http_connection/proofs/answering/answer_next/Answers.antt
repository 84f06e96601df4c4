use Rattle.std.proofs.Common.{◌≡◌, ◌≤◌, ◌+◌, ◌%◌, ℕ, List, drop, length, inl, refl, rules}
use Rattle.http_messages.specs.Fronts.{IsHeadAt}
use Rattle.http_connection.specs.Reading.{message_of}
use Rattle.http_connection.specs.Requests.{http_request_data, request_of}
use Rattle.http_connection.specs.declared.stage.Stage.TheVariants as stage
use Rattle.http_connection.proofs.Going.{is_answered, is_final, is_lost, is_unfinished, part_is_unfinished, body_is_unfinished, awaited_is_unfinished}
use Rattle.http_connection.proofs.Reading.{none_or_some}
use Rattle.http_connection.proofs.answering.answer_next.Goals as goal

pub returns-then-is_empty : goal.returns-then-is_empty
returns-then-is_empty g c =
    is_unfinished g.P.Responder.refusal g.P.Responder.responds g.C.Clock.ticks c.args.connection.now c.args.connection.now c.args.state.now c.args.clock.now
    (inl ((none_or_some c.is_empty.result c.args.connection.now.unread (search rules)).0 c.if-is_empty.true)) c.requires.open refl c.requires.written refl

pub returns-then-len-connection : goal.returns-then-len-connection
returns-then-len-connection g c =
    let same : ◌≡◌ {A = List ℕ} c.connection.inside.unread.items c.args.connection.now.unread = search rules in
    is_unfinished g.P.Responder.refusal g.P.Responder.responds g.C.Clock.ticks c.args.connection.now c.args.connection.now c.args.state.now c.args.clock.now
    (rw same at (awaited_is_unfinished c.connection.inside.unread.items c.connection.inside.awaited c.connection.invariant.1 (search rules))) c.requires.open refl c.requires.written refl

pub refuse-requires-clause-faulty : goal.refuse-requires-clause-faulty
refuse-requires-clause-faulty g c =
    let seen : ◌≡◌ {A = List ℕ} c.deref.result.now c.args.connection.now.unread = search rules in
    rw seen at c.in-Refused.ensures

pub returns-then-len-head : goal.returns-then-len-head
returns-then-len-head g c =
    let seen : ◌≡◌ {A = List ℕ} c.deref.result.now c.args.connection.now.unread = search rules in
    let found = c.in-Whole.ensures in
    let here : IsHeadAt c.args.connection.now.unread c.in-Whole.head found.0 = rw seen at found.1 in
    is_unfinished g.P.Responder.refusal g.P.Responder.responds g.C.Clock.ticks c.args.connection.now
    (record { stage = c.connection.inside.stage; unread = c.connection.inside.unread.items; pending = drop c.connection.inside.sent c.connection.inside.text.items; answers = c.connection.inside.answers })
    c.args.state.now c.args.clock.now
    (body_is_unfinished c.args.connection.now.unread c.in-Whole.head found.0 here (search rules)) (search rules) (search rules) (search rules) (search rules)

pub returns-in-Part : goal.returns-in-Part
returns-in-Part g c =
    let seen : ◌≡◌ {A = List ℕ} c.deref.result.now c.args.connection.now.unread = search rules in
    is_unfinished g.P.Responder.refusal g.P.Responder.responds g.C.Clock.ticks c.args.connection.now c.args.connection.now c.args.state.now c.args.clock.now
    (part_is_unfinished c.args.connection.now.unread (rw seen at c.in-Part.ensures)) c.requires.open refl c.requires.written refl

pub returns-then-is_err : goal.returns-then-is_err
returns-then-is_err g c =
    let head = c.in-Whole.ensures in
    let seen : ◌≡◌ {A = List ℕ} c.deref.result.now c.args.connection.now.unread = search rules in
    let lent : ◌≡◌ {A = List ℕ} c.deref-in-Whole.result.now c.args.connection.now.unread = search rules in
    let here : IsHeadAt c.args.connection.now.unread c.in-Whole.head head.0 = rw seen at head.1 in
    let fits : c.in-Whole.head.size + c.in-Whole.head.body ≤ length c.args.connection.now.unread = search rules in
    let same : http_request_data c.request_at-request.result ≡ request_of (message_of c.args.connection.now.unread c.in-Whole.head head.0) = rw lent at (c.request_at-request.ensures head.0 (rw lent here)) in
    is_lost g.P.Responder.refusal g.P.Responder.responds g.C.Clock.ticks c.args.connection.now
    (record { stage = stage.Lost; unread = c.connection.inside.unread.items; pending = c.clear.new.self.items; answers = (c.connection.inside.answers + 1) % 18446744073709551616 })
    c.in-Whole.head head.0 (http_request_data c.request_at-request.result) c.now_ms-moment.result
    c.args.state.now c.args.clock.now c.respond.new.state c.now_ms-moment.new.self here fits same c.now_ms-moment.ensures (search rules) refl (search rules) c.clear.ensures.items (search rules)

pub returns-then-head : goal.returns-then-head
returns-then-head g c =
    let head = c.in-Whole.ensures in
    let seen : ◌≡◌ {A = List ℕ} c.deref.result.now c.args.connection.now.unread = search rules in
    let lent : ◌≡◌ {A = List ℕ} c.deref-in-Whole.result.now c.args.connection.now.unread = search rules in
    let here : IsHeadAt c.args.connection.now.unread c.in-Whole.head head.0 = rw seen at head.1 in
    let fits : c.in-Whole.head.size + c.in-Whole.head.body ≤ length c.args.connection.now.unread = search rules in
    let same : http_request_data c.request_at-request.result ≡ request_of (message_of c.args.connection.now.unread c.in-Whole.head head.0) = rw lent at (c.request_at-request.ensures head.0 (rw lent here)) in
    is_final g.P.Responder.refusal g.P.Responder.responds g.C.Clock.ticks c.args.connection.now
    (record { stage = stage.Last; unread = c.connection.inside.unread.items; pending = c.respond.new.text.items; answers = (c.connection.inside.answers + 1) % 18446744073709551616 })
    c.in-Whole.head head.0 (http_request_data c.request_at-request.result) c.now_ms-moment.result c.respond.new.text.items
    c.args.state.now c.args.clock.now c.respond.new.state c.now_ms-moment.new.self here fits same (search rules) c.now_ms-moment.ensures (search rules) refl (search rules) refl (search rules)

pub returns-else-head : goal.returns-else-head
returns-else-head g c =
    let head = c.in-Whole.ensures in
    let seen : ◌≡◌ {A = List ℕ} c.deref.result.now c.args.connection.now.unread = search rules in
    let lent : ◌≡◌ {A = List ℕ} c.deref-in-Whole.result.now c.args.connection.now.unread = search rules in
    let here : IsHeadAt c.args.connection.now.unread c.in-Whole.head head.0 = rw seen at head.1 in
    let fits : c.in-Whole.head.size + c.in-Whole.head.body ≤ length c.args.connection.now.unread = search rules in
    let same : http_request_data c.request_at-request.result ≡ request_of (message_of c.args.connection.now.unread c.in-Whole.head head.0) = rw lent at (c.request_at-request.ensures head.0 (rw lent here)) in
    is_answered g.P.Responder.refusal g.P.Responder.responds g.C.Clock.ticks c.args.connection.now
    (record { stage = c.connection.inside.stage; unread = c.drop_front.new.unread.items; pending = c.respond.new.text.items; answers = (c.connection.inside.answers + 1) % 18446744073709551616 })
    c.in-Whole.head head.0 (http_request_data c.request_at-request.result) c.now_ms-moment.result c.respond.new.text.items
    c.args.state.now c.args.clock.now c.respond.new.state c.now_ms-moment.new.self here fits same (search rules) c.now_ms-moment.ensures (search rules) (search rules) (search rules) refl (search rules)
