use Rattle.std.proofs.Common.{length}
use Rattle.std.specs.List.{AllByRecursion}
use Rattle.slot_desk.specs.Seats.{IsSeatOf}
use Rattle.tests_slots.specs.Crews.{IsAtDesk}
use Rattle.tests_slots.proofs.workers.workers_of.Given as goal

abbrev pub invariant-loop-seat : goal.invariant-loop-seat
invariant-loop-seat g l = AllByRecursion (IsSeatOf l.desk) l.seats.items × AllByRecursion (IsAtDesk l.desk) l.workers.items

abbrev pub decreases-loop-seat : goal.decreases-loop-seat
decreases-loop-seat g l = length l.seats.items
