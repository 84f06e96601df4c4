use Rattle.std.proofs.Common.{◌≡◌, ◌∙◌, ◌+◌, ◌++◌, [], ◌∷◌, ap, arith}
use Rattle.desk.specs.Desks.{DeskData}
use Rattle.http_seats.specs.Locks.{seats_of}
use Rattle.http_seats.proofs.LockSeats.{next_seat}
use Rattle.http_seats.proofs.locks.seats.Goals as goal

pub loop-preserved : goal.loop-preserved
loop-preserved g c =
    let one : c.sit.new.self.seats ≡ c.loop.desk.seats + 1 = ap (λ (d : DeskData). d.seats) c.in-Ok.ensures.given.1 in
    let given : c.sit.new.self.seats ≡ c.loop.counter + 1 = omega (arith, one, c.loop.invariant.given) in
    let same : c.sit.new.self.services ≡ c.loop.desk.services = ap (λ (d : DeskData). d.services) c.in-Ok.ensures.given.1 in
    let pushed : c.push.new.self.items ≡ c.loop.seats.items ++ c.in-Ok.seat ∷ [] = c.in_ok-push-in-Ok.ensures.items in
    let next : c.loop.seats.items ++ c.in-Ok.seat ∷ [] ≡ seats_of 1 (c.loop.counter + 1) =
    next_seat c.loop.counter c.loop.desk.seats c.loop.seats.items c.in-Ok.seat c.loop.invariant.seated c.loop.invariant.given c.in-Ok.ensures.given.0 in
    record { given = given; within = omega arith; services = same ∙ c.loop.invariant.services; seated = pushed ∙ next }
