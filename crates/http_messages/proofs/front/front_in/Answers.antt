use Rattle.std.proofs.Common.{◌≡◌, ◌<◌, ◌*◌, length, map, take, refl, ap, sym, Err, arith, inl, inr}
use Rattle.httparse.specs.Spans.{IsRequestOf, IsRequestWithin, header_bytes}
use Rattle.http_messages.specs.Fronts.{front_of}
use Rattle.http_messages.specs.Heads.{searched}
use Rattle.http_messages.proofs.Room.{exceeds_never}
use Rattle.http_messages.proofs.Found.{front_of_input, part_of_head, too_long}
use Rattle.http_messages.proofs.front.front_in.Goals as goal

pub returns-in-Ok-Complete : goal.returns-in-Ok-Complete
returns-in-Ok-Complete c =
    let seen : c.at_most-searched.result.now ≡ searched c.args.bytes.now = c.at_most-searched.ensures.value in
    let within : IsRequestWithin (searched c.args.bytes.now) c.parse_request.new.headers c.in-Ok-Complete.spans = rw (sym seen) (rw c.in-Ok-Complete.field-0-is at c.in-Ok-Complete.ensures.within) in
    let whole : IsRequestOf (searched c.args.bytes.now) c.parse_request.new.headers c.in-Ok-Complete.spans = rw (sym seen) (rw c.in-Ok-Complete.field-0-is at c.in-Ok-Complete.ensures.complete) in
    let same : c.front_of.result ≡ front_of (searched c.args.bytes.now) c.in-Ok-Complete.spans (map (header_bytes (searched c.args.bytes.now)) (take c.in-Ok-Complete.spans.headers c.parse_request.new.headers)) = rw seen at c.front_of.ensures in
    rw same (front_of_input 8192 c.args.bytes.now c.parse_request.new.headers c.in-Ok-Complete.spans whole.0 _ (omega arith) within whole.1 whole.1.fields)

pub returns-in-Ok-Partial : goal.returns-in-Ok-Partial
returns-in-Ok-Partial c =
    let none = rw c.in-Ok-Partial.field-0-is at c.in-Ok-Partial.ensures.partial in
    let may = rw c.in-Ok-Partial.field-0-is at c.in-Ok-Partial.ensures.unfinished in
    part_of_head c.args.bytes.now c.at_most-searched.result.now c.at_most-searched.ensures.value c.if-bytes-lt-HEAD_LIMIT.true none may

pub returns-in-Ok-Partial-2 : goal.returns-in-Ok-Partial-2
returns-in-Ok-Partial-2 c =
    let none = rw c.in-Ok-Partial.field-0-is at c.in-Ok-Partial.ensures.partial in
    let may = rw c.in-Ok-Partial.field-0-is at c.in-Ok-Partial.ensures.unfinished in
    rw c.without_head.ensures (inr (inl (refl, too_long c.args.bytes.now c.at_most-searched.result.now c.at_most-searched.ensures.value c.if-bytes-lt-HEAD_LIMIT.false none may)))

pub returns-in-Err : goal.returns-in-Err
returns-in-Err c =
    let low : length c.at_most-searched.result.now < 3 * length c.args.room.now = omega (arith, c.requires.room, c.at_most-searched.ensures.short) in
    let never = c.in-Err.ensures.invalid (λ e. exceeds_never c.at_most-searched.result.now (length c.args.room.now) low (c.in-Err.ensures.too_many (ap Err e))) in
    rw c.without_head-in-Err.ensures (inl (refl, rw c.at_most-searched.ensures.value at never))
