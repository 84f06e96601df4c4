use Rattle.std.proofs.Common.{length}
use Rattle.std.specs.List.{AllByRecursion}
use Rattle.slot_desk.specs.Seats.{IsSeatOf}
use Rattle.tests_slots.specs.Crews.{IsAtDesk}
use Rattle.tests_slots.proofs.workers.apart.Given as goal

abbrev pub invariant-loop-worker : goal.invariant-loop-worker
invariant-loop-worker g l = AllByRecursion (IsAtDesk l.desk) l.workers.items × AllByRecursion (IsSeatOf l.desk) l.seats.items

abbrev pub decreases-loop-worker : goal.decreases-loop-worker
decreases-loop-worker g l = length l.workers.items
