use Rattle.std.proofs.Common.{length}
use Rattle.slot_desk.proofs.closing.+give_back_all.Given as goal

abbrev pub decreases-give_back_all : goal.decreases-give_back_all
decreases-give_back_all a = length a.slots.now
