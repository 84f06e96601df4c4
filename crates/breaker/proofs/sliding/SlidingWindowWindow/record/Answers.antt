use Rattle.breaker.proofs.sliding.SlidingWindowWindow.record.Goals as goal

pub returns-in-Count-clause-same : goal.returns-in-Count-clause-same
returns-in-Count-clause-same c = rw c.in-Count.is c.record.ensures.same

pub returns-in-Time-clause-same : goal.returns-in-Time-clause-same
returns-in-Time-clause-same c = rw c.in-Time.is c.record-in-Time.ensures.same
