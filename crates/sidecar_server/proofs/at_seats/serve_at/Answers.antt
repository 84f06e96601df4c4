use mir.Syntax.{static}
use denote.Exit.{yes}
use denote.Param.Send.{param_send, arg_send}
use Rattle.std.proofs.Common.{◌≡◌, ◌∙◌, ap, length, sym, subst, arith}
use Rattle.std.specs.List.{AllByRecursion}
use Rattle.http_seats.proofs.Sending.{answerer_send}
use Rattle.http_seats.specs.Seated.{seated, names_by, asks_by}
use Rattle.sidecar_server.proofs.Crews.{all_back, as_many_workers}
use Rattle.sidecar_server.proofs.Endings.{over_by}
use Rattle.sidecar_server.proofs.Seating.{back_here}
use Rattle.sidecar_server.proofs.at_seats.serve_at.Goals as goal

pub serve_by_pool-requires-send-A : goal.serve_by_pool-requires-send-A
serve_by_pool-requires-send-A g c κs within = param_send 1 _ (arg_send _ yes _ (answerer_send (record { mir = static; lft = _ }) _ _ _ _ g.S.DeskSeat c.type_bounds.sync-D c.type_bounds.send-S c.type_bounds.sync-G c.type_bounds.sync-R))

pub serve_by_pool-requires-clause-some : goal.serve_by_pool-requires-clause-some
serve_by_pool-requires-clause-some g c κs within =
    let many = as_many_workers (seated c.deal.new.desk c.args.upkeeps.now) c.args.clock c.in_ok-seats.seats.items c.in_ok-workers.workers.items c.in_ok-workers.ensures in
    omega (arith, c.in_ok-workers.workers.ok.0, many, c.in_ok-seats.seats.ok.0, c.in_ok-seats.ensures.all.0, c.requires.some)

pub serve_by_pool-requires-clause-few : goal.serve_by_pool-requires-clause-few
serve_by_pool-requires-clause-few g c κs within =
    let many = as_many_workers (seated c.deal.new.desk c.args.upkeeps.now) c.args.clock c.in_ok-seats.seats.items c.in_ok-workers.workers.items c.in_ok-workers.ensures in
    omega (arith, c.in_ok-workers.workers.ok.0, many, c.in_ok-seats.seats.ok.0, c.in_ok-seats.ensures.all.0, c.requires.few)

pub close-requires-clause-here : goal.close-requires-clause-here
close-requires-clause-here g c =
    let here = back_here g.S.DeskSeat.sits_at g.S.DeskSeat.names_of g.S.DeskSeat.asks g.C.Clock.ticks c.deal.new.desk c.args.upkeeps.now c.args.clock c.in_ok-seats.seats.items c.in_ok-workers.workers.items c.in_ok-workers-2.workers.items c.in_ok-workers.ensures c.in_ok-workers-2.ensures.worked c.in_ok-seats-2.ensures.held in
    subst (AllByRecursion (g.S.DeskSeat.sits_at c.deal.new.desk)) (sym c.in_ok-seats-2.ensures.seats) here

pub close-requires-clause-all : goal.close-requires-clause-all
close-requires-clause-all g c =
    let many = as_many_workers (seated c.deal.new.desk c.args.upkeeps.now) c.args.clock c.in_ok-seats.seats.items c.in_ok-workers.workers.items c.in_ok-workers.ensures in
    let back : length c.in_ok-seats-2.seats.items ≡ length c.in_ok-workers.workers.items =
    all_back (names_by g.S.DeskSeat.names_of) (asks_by g.S.DeskSeat.asks) g.C.Clock.ticks (λ w. w.answerer.seat) c.in_ok-workers.workers.items c.in_ok-workers-2.workers.items c.in_ok-seats-2.seats.items c.in_ok-workers-2.ensures.worked c.in_ok-seats-2.ensures.seats in
    c.in_ok-seats-2.seats.ok.0 ∙ (back ∙ (many ∙ (sym c.in_ok-seats.seats.ok.0 ∙ (c.in_ok-seats.ensures.all.0 ∙ sym c.in_ok-seats.ensures.all.1))))

pub returns-clause-over : goal.returns-clause-over
returns-clause-over g c = over_by c.in_ok-workers-2.failure c.served.result.status c.args.limits.connections c.served.ensures.status c.in_ok-workers-2.ensures.over

pub returns-clause-served : goal.returns-clause-served
returns-clause-served g c =
    let later = c.in_ok-workers-2.workers.items in
    let closed = subst (λ seats. g.S.DeskSeat.closes c.deal.new.desk seats c.in_ok-books.books.items c.in_ok-books.counts.items) c.in_ok-seats-2.ensures.seats c.in_ok-books.ensures in
    record {
      dealt = c.deal.new.desk;
      seats = c.in_ok-seats.seats.items;
      later = later;
      sat = c.in_ok-seats.ensures.deals;
      worked = rw c.in_ok-workers.ensures at c.in_ok-workers-2.ensures.worked;
      closed = rw (ap (λ books. books.items) c.served.ensures.left.0, ap (λ counts. counts.items) c.served.ensures.left.1) closed;
    }
