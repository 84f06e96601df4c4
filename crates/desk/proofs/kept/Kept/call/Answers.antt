use Rattle.std.proofs.Common.{◌≡◌, ◌∙◌, ◌+◌, ◌-◌, ◌<◌, ◌^◌, arith, sym, ap}
use Rattle.book.specs.Counts.{made_by, cuts_by}
use Rattle.book.proofs.Counting.{calls_counted}
use Rattle.desk.specs.Seats.{SeatData, seat_of}
use Rattle.desk.proofs.Calling.{cuts_left, kept_on, seat_is, room_on}
use Rattle.desk.proofs.kept.Kept.call.Goals as goal

pub overflow_sub-made : goal.overflow_sub-made
overflow_sub-made g c =
    let made = calls_counted c.number.result c.self.inside.book (g.C.Call.called c.args.call) (g.C.Call.answered c.make-answer.result) c.make-answer.new.book c.make-answer.ensures.called in
    omega (arith, made, c.last_number-last.ensures.number, c.last_number.ensures.number)

pub take_entries-requires-clause-room : goal.take_entries-requires-clause-room
take_entries-requires-clause-room g c small =
    let made = calls_counted c.number.result c.self.inside.book (g.C.Call.called c.args.call) (g.C.Call.answered c.make-answer.result) c.make-answer.new.book c.make-answer.ensures.called in
    let room : c.args.seat.now.count + made_by (g.C.Call.called c.args.call) (g.C.Call.answered c.make-answer.result) < 2 ^ 64 =
    room_on c.number.result c.args.seat.now.count c.self.inside.book c.make-answer.new.book (g.C.Call.called c.args.call) (g.C.Call.answered c.make-answer.result) small c.requires.room c.make-answer.ensures.called in
    omega (arith, made, room, c.last_number-last.ensures.number, c.last_number.ensures.number)

pub take_cuts-requires-clause-left : goal.take_cuts-requires-clause-left
take_cuts-requires-clause-left g c =
    let of_ = c.self.invariant.of_service in
    rw (c.cuts.ensures c.args.call)
    (cuts_left g.M.Offered.services c.number.result c.self.inside.book c.make-answer.new.book (g.C.Call.called c.args.call) (g.C.Call.answered c.make-answer.result) of_.0 c.self.inside.cuts.amount c.self.invariant.good c.make-answer.ensures.called of_.1 of_.2)

pub invariant_of-self : goal.invariant_of-self
invariant_of-self g c =
    let made = calls_counted c.number.result c.self.inside.book (g.C.Call.called c.args.call) (g.C.Call.answered c.make-answer.result) c.make-answer.new.book c.make-answer.ensures.called in
    let cut : c.cuts.result ≡ cuts_by (g.C.Call.called c.args.call) (g.C.Call.answered c.make-answer.result) = c.cuts.ensures c.args.call in
    kept_on g.M.Offered.services c.number.result c.self.inside.book c.make-answer.new.book (g.C.Call.called c.args.call) (g.C.Call.answered c.make-answer.result) _ _ _ _ _ _ _ _ c.self.invariant c.make-answer.ensures.called c.make-answer.ensures.good_after
    c.take_entries.ensures.parts c.take_cuts.ensures.parts (omega (arith, made, c.last_number-last.ensures.number, c.last_number.ensures.number, c.take_entries.ensures.amount)) (omega (arith, cut, c.take_cuts.ensures.amount))

pub returns-clause-called : goal.returns-clause-called
returns-clause-called g c = record {
  before = c.self.inside.book;
  after = c.make-answer.new.book;
  of_service = (c.self.invariant.of_service.0, c.self.invariant.of_service.1);
  good_before = c.self.invariant.good;
  good_after = c.make-answer.ensures.good_after;
  holds = rw (sym c.number.ensures) c.make-answer.ensures.called;
}

pub returns-clause-counted : goal.returns-clause-counted
returns-clause-counted g c =
    let before : SeatData = c.args.seat.now in
    let made = calls_counted c.number.result c.self.inside.book (g.C.Call.called c.args.call) (g.C.Call.answered c.make-answer.result) c.make-answer.new.book c.make-answer.ensures.called in
    let entries : c.last_number.result - c.last_number-last.result ≡ made_by (g.C.Call.called c.args.call) (g.C.Call.answered c.make-answer.result) = omega (arith, made, c.last_number-last.ensures.number, c.last_number.ensures.number) in
    let cut : c.cuts.result ≡ cuts_by (g.C.Call.called c.args.call) (g.C.Call.answered c.make-answer.result) = c.cuts.ensures c.args.call in
    c.take_cuts.ensures.seat
    ∙ (ap (λ (s : SeatData). seat_of s.number s.count (s.cuts + c.cuts.result)) c.take_entries.ensures.seat
    ∙ ((λ i. seat_of before.number (before.count + entries i) (before.cuts + cut i))
    ∙ seat_is before c.self.inside.book c.make-answer.new.book (g.C.Call.called c.args.call) (g.C.Call.answered c.make-answer.result) (rw (sym c.number.ensures) c.make-answer.ensures.called)))
