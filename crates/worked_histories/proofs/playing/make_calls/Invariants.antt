use Rattle.worked_histories.proofs.playing.make_calls.Given as goal

-- who calls the book still fits its place
abbrev pub invariant-loop-ticket : goal.invariant-loop-ticket
invariant-loop-ticket g l = g.B.BookCalls.fits l.fn.place l.book
