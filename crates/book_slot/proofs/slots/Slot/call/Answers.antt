use Rattle.book_slot.specs.Views.{missed}
use Rattle.book_slot.proofs.Calling.{may_put, is_called, called_by}
use Rattle.book_slot.proofs.slots.Slot.call.Goals as goal

pub put-requires-clause-held : goal.put-requires-clause-held
put-requires-clause-held g c =
    let taken = c.take_waiting.ensures.taken in
    may_put (g.C.Call.called c.args.call) (g.C.Call.answered c.call-answer.result.0) c.place.inside.number (missed taken.0 c.place.inside.seat.me.0) _ _ _ c.place.invariant.1 taken.1 c.call-answer.ensures.did

pub returns-clause-called : goal.returns-clause-called
returns-clause-called g c =
    let taken = c.take_waiting.ensures.taken in
    called_by (g.C.Call.called c.args.call) (g.C.Call.answered c.call-answer.result.0) _ _ _ _ _ c.place.view_is
    (taken.0, is_called (g.C.Call.called c.args.call) (g.C.Call.answered c.call-answer.result.0) c.place.inside.number _ _ _ _ _ taken.1 c.call-answer.ensures.did c.put.ensures.put)
