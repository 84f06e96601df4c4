use Rattle.std.proofs.Common.{◌≡◌, drop}
use Rattle.windows.specs.Rings.{left, totals_of_bucket}
use Rattle.windows.specs.Sums.{sum_of}
use Rattle.windows.proofs.buckets.totals_left.Given as goal

abbrev pub invariant-fallen : goal.invariant-fallen
invariant-fallen l = (l.staying ≡ sum_of totals_of_bucket (drop l.index l.ring.items)) × (left l.size l.second (drop l.index l.ring.items) ≡ left l.size l.second l.ring.items)
