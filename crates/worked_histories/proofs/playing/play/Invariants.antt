use Rattle.worked_histories.proofs.playing.play.Given as goal

-- who calls the book still fits its place
abbrev pub invariant-loop-step : goal.invariant-loop-step
invariant-loop-step g l = g.B.BookCalls.fits l.fn.place l.book
