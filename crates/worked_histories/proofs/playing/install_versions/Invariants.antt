use Rattle.worked_histories.proofs.playing.install_versions.Given as goal

-- who calls the book still fits its place
abbrev pub invariant-loop-version : goal.invariant-loop-version
invariant-loop-version g l = g.B.BookCalls.fits l.fn.place l.book
