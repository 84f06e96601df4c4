use Rattle.std.proofs.Common.{◌≡◌, ◌∙◌, ap, subst, rules, List, [], ◌∷◌, ◌++◌}
use Rattle.std.specs.Vec.Iter.{into_iter_items}
use Rattle.http_seats.specs.Seated.{SeatedData}
use Rattle.http_pool.specs.declared.workers.Worker.{Worker}
use Rattle.sidecar_server.specs.Seats.{seats_with}
use Rattle.sidecar_server.proofs.Openings.{one_more}
use Rattle.sidecar_server.proofs.Seating.{held_more, seats_more_with}
use Rattle.sidecar_server.proofs.at_seats.seats_back.Goals as goal

pub loop-worker-init : goal.loop-worker-init
loop-worker-init g c = (tt, tt, ([], search rules, search rules, tt))

pub loop-worker-preserved : goal.loop-worker-preserved
loop-worker-preserved g c =
    let done : List (Worker (SeatedData g.row.D.Denot g.row.S.Denot) g.row.C.Denot) = c.loop-worker.invariant.2.0 in
    let later : List (Worker (SeatedData g.row.D.Denot g.row.S.Denot) g.row.C.Denot) = into_iter_items c.next.new.self in
    let worker : Worker (SeatedData g.row.D.Denot g.row.S.Denot) g.row.C.Denot = c.in-Some.worker in
    let whole : c.args.workers.items ≡ done ++ (worker ∷ later) = c.loop-worker.invariant.2.1 ∙ ap (λ rest. done ++ rest) c.in-Some.ensures.steps.0 in
    let seat : c.into_seat.result ≡ worker.answerer.seat = c.into_seat.ensures.seat in
    let seats : c.push.new.self.items ≡ seats_with (done ++ worker ∷ []) =
    c.in_ok-push.ensures.items ∙ (ap (λ (s : g.row.S.Denot). c.loop-worker.seats.items ++ s ∷ []) seat ∙ seats_more_with done worker c.loop-worker.seats.items c.loop-worker.invariant.2.2) in
    let held = held_more g.S.DeskSeat.sits_at done worker c.loop-worker.invariant.2.3 (subst (g.S.DeskSeat.sits_at worker.answerer.desk) seat c.into_seat.ensures.held) in
    (tt, tt, (done ++ worker ∷ [], whole ∙ one_more done worker later, seats, held))
