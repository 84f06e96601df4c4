use Rattle.std.proofs.Common.{rules, ap}
use mathlib.Core.Option.{none}
use Rattle.atomic_table.specs.Table.{step}
use Rattle.book_slot.specs.Rules.{traces_in}
use Rattle.book_slot.proofs.Keeps.{notes_step, informs_step, meets_at}
use Rattle.book_slot.proofs.slots.Slot.meet.Goals as goal

pub split_seat-note-requires : goal.split_seat-note-requires
split_seat-note-requires c = (search rules, search rules, notes_step _ _ (search rules))

pub join_seat-requires : goal.join_seat-requires
join_seat-requires c =
    let n = c.split_seat-note.ensures in
    let none_held = ap (λ m. m.1) n.4 in
    (search rules, search rules, none_held, search rules, informs_step _ _ _ _ (search rules) (ap (λ m. m.0.holds) n.4) (ap (λ m. m.0.parts) n.4) (ap (λ m. traces_in m.0) n.4))

pub load-requires : goal.load-requires
load-requires c =
    let j = c.join_seat.ensures in
    (search rules, search rules, meets_at (step 1 0 0 0 none) _ _ _ (search rules) (search rules) (search rules) (search rules))
