use Rattle.worked_histories.proofs.upkeep.failed_calls.Given as goal

-- who calls the book still fits its place
abbrev pub invariant-loop : goal.invariant-loop
invariant-loop g l = g.B.BookCalls.fits l.fn.place l.book
