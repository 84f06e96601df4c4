use Rattle.windows.proofs.LastOutcomes.{keeps_outcome}
use Rattle.windows.proofs.count.CountWindowWindow.record.Goals as goal

pub returns-clause-kept : goal.returns-clause-kept
returns-clause-kept c = rw (c.push_back.ensures.items, ← c.self.view_is, c.self.invariant.capacity) (λ notes kept after.
    keeps_outcome (record { size = c.self.inside.size; outcomes = c.self.inside.ring.items }) notes (record { moment = c.args._moment; failed = c.args.failed; slow = c.args.slow }) kept)
