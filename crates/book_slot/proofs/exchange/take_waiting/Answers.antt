use Rattle.std.proofs.Common.{rules, ◌∙◌, ◌+◌}
use Rattle.book_slot.proofs.Calling.{holds_after, missed_more}
use Rattle.book_slot.proofs.exchange.take_waiting.Goals as goal

pub returns-then-take-clause-taken : goal.returns-then-take-clause-taken
returns-then-take-clause-taken g c =
    let i = c.loop.invariant in
    (i.2.0, holds_after i.2.0 _ _ _ i.2.1 i.1 (search rules))

pub loop-preserved : goal.loop-preserved
loop-preserved g c =
    let i = c.loop.invariant in
    let b = c.if-take.ensures.taken in
    (search rules, b.1, (i.2.0 + 1, b.0 ∙ missed_more i.2.0 _ _ i.2.1))
