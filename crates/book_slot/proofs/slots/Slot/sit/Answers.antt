use Rattle.std.proofs.Common.{rules}
use Rattle.book_slot.proofs.Keeps.{deals_step}
use Rattle.book_slot.proofs.slots.Slot.sit.Goals as goal

pub split_seat-seat-requires : goal.split_seat-seat-requires
split_seat-seat-requires c =
    let i = c.self.invariant in
    let k = i.3 in
    (i.2, search rules, deals_step _ _ k.2 k.1 k.3 (search rules))
