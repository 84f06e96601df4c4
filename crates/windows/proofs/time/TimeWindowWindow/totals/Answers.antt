use Rattle.std.proofs.Common.{ap, ◌∙◌}
use Rattle.windows.specs.Rings.{left, totals_of_bucket, IsCounted}
use Rattle.windows.specs.Sums.{sum_of}
use Rattle.windows.proofs.Fallen.{left_all}
use Rattle.windows.proofs.Keeping.{sum_counted}
use Rattle.windows.proofs.Order.{left_in_window}
use Rattle.windows.proofs.time.TimeWindowWindow.totals.Goals as goal

pub returns-clause-fits : goal.returns-clause-fits
returns-clause-fits c = rw c.totals_left.ensures (sum_counted (left c.self.inside.size _ c.self.inside.ring.items) (left_all c.self.inside.size _ IsCounted c.self.inside.ring.items c.self.invariant.counted))

pub returns-clause-exact : goal.returns-clause-exact
returns-clause-exact c = rw (← c.self.view_is) (λ notes kept after.
    c.totals_left.ensures ∙ ap (sum_of totals_of_bucket) (left_in_window c.self.inside.size c.args.moment c.self.inside.ring.items c.self.invariant.some c.self.invariant.ordered) ∙ kept.exact c.args.moment after)
