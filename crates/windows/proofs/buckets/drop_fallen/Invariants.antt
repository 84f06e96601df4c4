use Rattle.std.proofs.Common.{◌≡◌, length}
use Rattle.windows.specs.Rings.{left, totals_of_bucket}
use Rattle.windows.specs.Sums.{sum_of}
use Rattle.windows.proofs.buckets.drop_fallen.Given as goal

abbrev pub invariant-fallen : goal.invariant-fallen
invariant-fallen l = (l.staying ≡ sum_of totals_of_bucket l.ring.items) × (left l.size l.second l.ring.items ≡ left l.size l.second l.initial.ring.items) × (l.ring.capacity ≡ l.initial.ring.capacity)

abbrev pub decreases-fallen : goal.decreases-fallen
decreases-fallen l = length l.ring.items
