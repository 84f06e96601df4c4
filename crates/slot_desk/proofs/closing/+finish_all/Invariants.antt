use Rattle.std.proofs.Common.{length}
use Rattle.slot_desk.proofs.closing.+finish_all.Given as goal

abbrev pub decreases-finish_all : goal.decreases-finish_all
decreases-finish_all a = length a.slots.items
