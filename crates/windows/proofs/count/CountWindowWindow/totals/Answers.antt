use Rattle.std.proofs.Common.{ap, ◌∙◌}
use Rattle.windows.specs.Rings.{totals_of_outcome}
use Rattle.windows.specs.Sums.{sum_of}
use Rattle.service_profile.specs.Windows.{last}
use Rattle.windows.proofs.LastOutcomes.{outcomes_within, outcomes_summed}
use Rattle.windows.proofs.count.CountWindowWindow.totals.Goals as goal

pub returns-clause-fits : goal.returns-clause-fits
returns-clause-fits c = rw c.self.invariant.summed (outcomes_within c.self.inside.ring.items)

pub returns-clause-exact : goal.returns-clause-exact
returns-clause-exact c = rw (← c.self.view_is) (λ notes kept after. c.self.invariant.summed ∙ ap (sum_of totals_of_outcome) kept ∙ outcomes_summed (last c.self.inside.size notes))
