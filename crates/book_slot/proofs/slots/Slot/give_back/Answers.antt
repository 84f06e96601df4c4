use Rattle.std.proofs.Common.{rules}
use Rattle.book_slot.proofs.Keeps.{gathers_step}
use Rattle.book_slot.proofs.slots.Slot.give_back.Goals as goal

pub join_seat-requires : goal.join_seat-requires
join_seat-requires c =
    let i = c.self.invariant in
    let k = i.3 in
    let r = c.place.invariant in
    (i.2, search rules, r.0.0, search rules, gathers_step _ _ _ _ k.1 k.2 r.0.1 r.0.2)
