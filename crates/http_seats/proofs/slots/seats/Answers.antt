use Rattle.std.proofs.Common.{◌≡◌, ◌∙◌, ◌+◌, ◌++◌, [], ◌∷◌, ap, arith}
use Rattle.slot_desk.specs.Desks.{DeskData}
use Rattle.slot_desk.specs.Sitting.{new_seat}
use Rattle.http_seats.specs.Slots.{seats_of}
use Rattle.http_seats.proofs.SlotSeats.{next_seat}
use Rattle.http_seats.proofs.slots.seats.Goals as goal

pub loop-preserved : goal.loop-preserved
loop-preserved c =
    let one : c.sit.new.self.seats ≡ c.loop.desk.seats + 1 = ap (λ (d : DeskData). d.seats) c.in-Ok.ensures.desk in
    let given : c.sit.new.self.seats ≡ c.loop.counter + 1 = omega (arith, one, c.loop.invariant.given) in
    let names : c.sit.new.self.names ≡ c.loop.desk.names = ap (λ (d : DeskData). d.names) c.in-Ok.ensures.desk in
    let origins : c.sit.new.self.origins ≡ c.loop.desk.origins = ap (λ (d : DeskData). d.origins) c.in-Ok.ensures.desk in
    let tables : c.sit.new.self.tables ≡ c.loop.desk.tables = ap (λ (d : DeskData). d.tables) c.in-Ok.ensures.desk in
    let pushed : c.push.new.self.items ≡ c.loop.seats.items ++ c.in-Ok.seat ∷ [] = c.in_ok-push-in-Ok.ensures.items in
    let seat : c.in-Ok.seat ≡ new_seat (c.loop.desk.seats + 1) c.args.desk.now.tables c.args.desk.now.origins =
    c.in-Ok.ensures.given ∙ (λ i. new_seat (c.loop.desk.seats + 1) (c.loop.invariant.tables i) (c.loop.invariant.origins i)) in
    let next : c.loop.seats.items ++ c.in-Ok.seat ∷ [] ≡ seats_of c.args.desk.now.tables c.args.desk.now.origins 1 (c.loop.counter + 1) =
    next_seat c.args.desk.now.tables c.args.desk.now.origins c.loop.counter c.loop.desk.seats c.loop.seats.items c.in-Ok.seat c.loop.invariant.seated c.loop.invariant.given seat in
    record { given = given; within = omega arith; names = names ∙ c.loop.invariant.names; tables = tables ∙ c.loop.invariant.tables; origins = origins ∙ c.loop.invariant.origins; seated = pushed ∙ next }
