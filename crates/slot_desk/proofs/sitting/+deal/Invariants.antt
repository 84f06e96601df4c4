use Rattle.std.proofs.Common.{length}
use Rattle.slot_desk.proofs.sitting.+deal.Given as goal

abbrev pub decreases-deal : goal.decreases-deal
decreases-deal a = length a.slots.now
