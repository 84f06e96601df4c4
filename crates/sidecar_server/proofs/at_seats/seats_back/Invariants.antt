use Rattle.std.proofs.Common.{◌≡◌, ◌++◌, List}
use Rattle.std.specs.Vec.Iter.{into_iter_items}
use Rattle.sidecar_server.specs.Seats.{seats_with}
use Rattle.sidecar_server.proofs.Seating.{AreHeld}
use Rattle.sidecar_server.proofs.at_seats.seats_back.Given as goal

abbrev pub invariant-loop-worker : goal.invariant-loop-worker
invariant-loop-worker g l =
    (goal.iterator-loop-worker g).can_next l.worker-iterator ×
    (goal.iterator-loop-worker g).is_finite l.worker-iterator ×
    ((done : List _) × (l.fn.workers.items ≡ done ++ into_iter_items l.worker-iterator) × (l.seats.items ≡ seats_with done) × AreHeld g.S.DeskSeat.sits_at done)
