use Rattle.std.proofs.Common.{◌≡◌, rules, IfOk}
use Rattle.std.proofs.lemmas.Iterator.{YieldsList-from_slice, YieldsList-from_map, items_from_collect}
use Rattle.slot_desk.specs.Seats.{SeatData}
use Rattle.http_seats.specs.Slots.{counts_of}
use Rattle.http_seats.proofs.slots.closed.Goals as goal

pub returns-in-Ok-clause-counts : goal.returns-in-Ok-clause-counts
returns-in-Ok-clause-counts c =
    let all : IfOk c.collect.result (λ v. v.items ≡ counts_of c.args.seats.items) =
    items_from_collect c.collect.result c.collect.ensures.ran (YieldsList-from_map _ (λ (seat : SeatData). seat.count) (YieldsList-from_slice c.args.seats.items cc) c.map.ensures.closure (λ x r q k. search rules)) in
    rw c.in_ok-counts.was at all
