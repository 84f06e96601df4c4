use Rattle.std.proofs.Common.{◌≡◌, ◌∙◌, ap, sym, append-nil, List, [], ◌∷◌, ◌++◌, map, subst}
use Rattle.std.specs.List.{AllByRecursion}
use Rattle.std.proofs.lemmas.List.{nil_from_length}
use Rattle.std.specs.Vec.Iter.{into_iter_items}
use Rattle.http_seats.specs.Seated.{seated}
use Rattle.sidecar_server.specs.Seats.{workers_of}
use Rattle.sidecar_server.proofs.Openings.{one_more}
use Rattle.sidecar_server.proofs.Crews.{next_worker}
use Rattle.sidecar_server.proofs.at_seats.workers.Goals as goal

pub loop-seat-preserved : goal.loop-seat-preserved
loop-seat-preserved g c =
    let done : List g.row.S.Denot = c.loop-seat.invariant.2.0 in
    let later : List g.row.S.Denot = into_iter_items c.next.new.self in
    let seat : g.row.S.Denot = c.in-Some.seat in
    let whole : c.args.seats.items ≡ done ++ (seat ∷ later) = c.loop-seat.invariant.2.1 ∙ ap (λ rest. done ++ rest) c.in-Some.ensures.steps.0 in
    let here : AllByRecursion (g.S.DeskSeat.sits_at c.args.desk.now) (seat ∷ later) = subst (AllByRecursion (g.S.DeskSeat.sits_at c.args.desk.now)) c.in-Some.ensures.steps.0 c.loop-seat.invariant.3 in
    let more : c.push.new.self.items ≡ workers_of c.args.clock (map (seated c.args.desk.now c.args.upkeeps.now) (done ++ seat ∷ [])) =
    c.in_ok-push.ensures.items ∙ next_worker (seated c.args.desk.now c.args.upkeeps.now) c.args.clock done seat c.loop-seat.workers.items c.new.result c.loop-seat.invariant.2.2 (c.new.ensures.answerer ∙ c.new-answerer.ensures) c.new.ensures.clock c.new.ensures.failure in
    (tt, tt, (done ++ seat ∷ [], whole ∙ one_more done seat later, more), here.1)

pub returns : goal.returns
returns g c =
    let done : List g.row.S.Denot = c.loop-seat.invariant.2.0 in
    let none_left : into_iter_items c.loop-seat.seat-iterator ≡ [] = nil_from_length _ (sym c.loop-seat.seat-iterator.rest.ok.0 ∙ c.in-None.ensures.steps.0) in
    let all : c.args.seats.items ≡ done = c.loop-seat.invariant.2.1 ∙ (ap (λ rest. done ++ rest) none_left ∙ append-nil done) in
    c.loop-seat.invariant.2.2 ∙ ap (λ seats. workers_of c.args.clock (map (seated c.args.desk.now c.args.upkeeps.now) seats)) (sym all)
