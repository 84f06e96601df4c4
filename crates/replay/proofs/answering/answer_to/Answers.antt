use Rattle.std.proofs.Common.{◌≡◌, inr, rules}
use Rattle.service.specs.Asked.{response_data}
use Rattle.replay.specs.Answering.{IsAnswered, answer_line}
use Rattle.replay.specs.Asking.{asked}
use Rattle.replay.proofs.answering.answer_to.Goals as goal

pub returns-then-is_err-clause-part : goal.returns-then-is_err-clause-part
returns-then-is_err-clause-part g c =
    let is : IsAnswered c.args.book.now (asked c.args.line.now) (response_data c.answer-answer.result) c.answer-answer.new.book = search rules in
    let text : c.as_slice.result.now ≡ answer_line (response_data c.answer-answer.result) = search rules in
    inr (response_data c.answer-answer.result, c.answer-answer.new.book, is, rw text at c.send.ensures.part)

pub returns-clause-part : goal.returns-clause-part
returns-clause-part g c =
    let is : IsAnswered c.args.book.now (asked c.args.line.now) (response_data c.answer-answer.result) c.answer-answer.new.book = search rules in
    let text : c.as_slice.result.now ≡ answer_line (response_data c.answer-answer.result) = search rules in
    inr (response_data c.answer-answer.result, c.answer-answer.new.book, is, rw text at c.send.ensures.part)
