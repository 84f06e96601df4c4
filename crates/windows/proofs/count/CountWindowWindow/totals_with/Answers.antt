use Rattle.std.proofs.Common.{◌++◌, ◌∷◌, [], ap, ◌∙◌}
use Rattle.windows.specs.Rings.{totals_of_outcome}
use Rattle.windows.specs.Sums.{sum_of}
use Rattle.service_profile.specs.Windows.{last}
use Rattle.windows.proofs.LastOutcomes.{outcomes_summed, keeps_outcome}
use Rattle.windows.proofs.count.CountWindowWindow.totals_with.Goals as goal

pub returns : goal.returns
returns c = rw (← c.self.view_is) (λ notes kept after.
    rw c.self.invariant.capacity at c.totals_after.ensures
    ∙ ap (sum_of totals_of_outcome) (keeps_outcome (record { size = c.self.inside.size; outcomes = c.self.inside.ring.items }) notes (record { moment = c.args._moment; failed = c.args.failed; slow = c.args.slow }) kept)
    ∙ outcomes_summed (last c.self.inside.size (notes ++ (record { moment = c.args._moment; failed = c.args.failed; slow = c.args.slow }) ∷ [])))
