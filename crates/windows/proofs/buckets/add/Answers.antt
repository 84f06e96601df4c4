use Rattle.std.proofs.Common.{◌^◌, ◌-◌}
use Rattle.windows.specs.Rings.{newest, totals_of_bucket}
use Rattle.windows.specs.Sums.{sum_of}
use Rattle.windows.proofs.Adding.{part_fits}
use Rattle.windows.proofs.Noted.{newest_is_part}
use Rattle.windows.proofs.buckets.add.Goals as goal

pub plus-requires : goal.plus-requires
plus-requires c = rw c.take_newest-bucket.ensures.bucket (part_fits (2 ^ 64 - 1) (newest c.args.second c.args.ring.now.items).totals (sum_of totals_of_bucket c.args.ring.now.items) c.args.more (newest_is_part c.args.second c.args.ring.now.items) c.requires)
