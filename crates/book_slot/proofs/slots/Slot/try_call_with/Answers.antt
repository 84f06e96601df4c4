use Rattle.book.specs.Accepted.{seen}
use Rattle.service_profile.specs.Calls.{applies, replies}
use Rattle.book_slot.proofs.Calling.{may_put, is_called, tried_by}
use Rattle.book_slot.proofs.slots.Slot.try_call_with.Goals as goal

pub put-requires-clause-held : goal.put-requires-clause-held
put-requires-clause-held g c =
    may_put (applies c.args.moment (seen c.args.event)) (replies c.call-answer.result.0) c.place.inside.number c.place.inside.seat.me.0 _ _ _ c.place.invariant.1 c.if-not-take.ensures.taken c.call-answer.ensures.did

pub returns-clause-called : goal.returns-clause-called
returns-clause-called g c =
    tried_by (applies c.args.moment (seen c.args.event)) (replies c.call-answer.result.0) _ _ _ _ _ c.place.view_is
    (is_called (applies c.args.moment (seen c.args.event)) (replies c.call-answer.result.0) c.place.inside.number _ _ _ _ _ c.if-not-take.ensures.taken c.call-answer.ensures.did c.put.ensures.put)
