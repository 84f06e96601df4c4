use Rattle.std.proofs.Common.{arith}
use Rattle.book.proofs.Counting.{calls_counted}
use Rattle.book_slot.proofs.Calling.{does_held}
use Rattle.book_slot.proofs.held.call.Goals as goal

pub returns-clause-did : goal.returns-clause-did
returns-clause-did g c = does_held _ _ _ _ _ c.requires.held.1 c.slot_mut-book.ensures.value c.make-answer.ensures.called c.make-answer.ensures.good_after

pub returns-clause-made : goal.returns-clause-made
returns-clause-made g c =
    let made = calls_counted c.args.number c.slot_mut-book.result.now (g.C.Call.called c.args.call) (g.C.Call.answered c.make-answer.result) c.make-answer.new.book c.make-answer.ensures.called in
    omega (arith, made, c.last_number-last.ensures.number, c.last_number.ensures.number)

pub overflow_sub-made : goal.overflow_sub-made
overflow_sub-made g c =
    let made = calls_counted c.args.number c.slot_mut-book.result.now (g.C.Call.called c.args.call) (g.C.Call.answered c.make-answer.result) c.make-answer.new.book c.make-answer.ensures.called in
    omega (arith, made, c.last_number-last.ensures.number, c.last_number.ensures.number)
