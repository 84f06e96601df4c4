use Rattle.std.proofs.Common.{◌≡◌, ◌++◌, List, map}
use Rattle.std.specs.List.{AllByRecursion}
use Rattle.std.specs.Vec.Iter.{into_iter_items}
use Rattle.http_seats.specs.Seated.{seated}
use Rattle.sidecar_server.specs.Seats.{workers_of}
use Rattle.sidecar_server.proofs.at_seats.workers.Given as goal

abbrev pub invariant-loop-seat : goal.invariant-loop-seat
invariant-loop-seat g l =
    (goal.iterator-loop-seat g).can_next l.seat-iterator ×
    (goal.iterator-loop-seat g).is_finite l.seat-iterator ×
    ((done : List g.row.S.Denot) × (l.fn.seats.items ≡ done ++ into_iter_items l.seat-iterator) × (l.workers.items ≡ workers_of l.clock (map (seated l.desk l.upkeeps) done)))
    × AllByRecursion (g.S.DeskSeat.sits_at l.desk) (into_iter_items l.seat-iterator)
