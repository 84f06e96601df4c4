use Rattle.book.proofs.machine.decided.Goals as goal

pub returns-in-Acquire : goal.returns-in-Acquire
returns-in-Acquire c = λ held s stands before. rw c.in-Acquire.is (c.acquired.ensures held s stands)

pub returns-in-Finish : goal.returns-in-Finish
returns-in-Finish c = λ held s stands before. rw c.in-Finish.is (c.finished.ensures held s stands before)

pub returns-in-Install : goal.returns-in-Install
returns-in-Install c = λ held s stands before. rw (c.in-Install.is, ← c.deref.ensures) (c.installed.ensures c.args.moment held s stands)

pub returns-in-Move : goal.returns-in-Move
returns-in-Move c = λ held s stands before. rw c.in-Move.is (c.moved_to.ensures.moves held s stands)

pub returns-in-Reset : goal.returns-in-Reset
returns-in-Reset c = λ held s stands before. rw c.in-Reset.is (c.moved_to-in-Reset.ensures.resets held s stands)

pub returns-in-Release : goal.returns-in-Release
returns-in-Release c = λ held s stands before. rw c.in-Release.is (c.released.ensures c.args.moment held s stands)
