use Rattle.std.proofs.Common.{◌∙◌, ap}
use Rattle.slot_desk.specs.Seats.{SeatData}
use Rattle.tests_slots.proofs.callers.Caller.read.Goals as goal

pub invariant_of-self : goal.invariant_of-self
invariant_of-self g c = ap (λ (s : SeatData). s.tables) c.read.ensures.called.4 ∙ c.self.invariant
