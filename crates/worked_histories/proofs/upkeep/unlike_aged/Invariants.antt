use Rattle.worked_histories.proofs.upkeep.unlike_aged.Given as goal

-- who calls the book still fits its place
abbrev pub invariant-loop-moment : goal.invariant-loop-moment
invariant-loop-moment g l = g.B.BookCalls.fits l.fn.place l.book
