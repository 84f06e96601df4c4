use Rattle.std.proofs.Common.{◌≡◌, ◌+◌, length, map}
use Rattle.std.specs.Prelude.{sum}
use Rattle.desk.proofs.closing.merge_seats.Given as goal

abbrev pub invariant-loop-seat : goal.invariant-loop-seat
invariant-loop-seat g l =
    (l.entries.parts + length l.seats.items ≡ l.initial.entries.parts + length l.initial.seats.items)
    × (l.entries.amount + sum (map (λ seat. seat.count) l.seats.items) ≡ l.initial.entries.amount + sum (map (λ seat. seat.count) l.initial.seats.items))
    × (l.cuts.parts + length l.seats.items ≡ l.initial.cuts.parts + length l.initial.seats.items)
    × (l.cuts.amount + sum (map (λ seat. seat.cuts) l.seats.items) ≡ l.initial.cuts.amount + sum (map (λ seat. seat.cuts) l.initial.seats.items))

abbrev pub decreases-loop-seat : goal.decreases-loop-seat
decreases-loop-seat g l = length l.seats.items
