use Rattle.std.proofs.Common.{length}
use Rattle.slot_desk.proofs.closing.+gather_reversed.Given as goal

abbrev pub decreases-gather_reversed : goal.decreases-gather_reversed
decreases-gather_reversed a = length a.seats.items
