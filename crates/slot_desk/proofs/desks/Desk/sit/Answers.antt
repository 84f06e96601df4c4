use Rattle.std.proofs.Common.{rules, ◌≡◌, ◌∙◌, ◌+◌, length, map, replicate, ap, sym}
use Rattle.slot_desk.specs.Seats.{entries_in}
use Rattle.slot_desk.specs.Sitting.{newcomer_of}
use Rattle.slot_desk.specs.Slots.{origin_of, number_at, view_at}
use Rattle.slot_desk.proofs.Counting.{numbered}
use Rattle.slot_desk.proofs.Entries.{none_made}
use Rattle.slot_desk.proofs.desks.Desk.sit.Goals as goal

pub invariant_of-result : goal.invariant_of-result
invariant_of-result c =
    let number = c.self.inside.given + 1 in
    let slots = c.self.inside.slots.items in
    let views : map view_at c.deal.new.places.items ≡ map (newcomer_of number) (map origin_of slots) = search rules in
    let numbers : map number_at c.deal.new.places.items ≡ replicate (length slots) number = search rules in
    (numbered number_at c.deal.new.places.items c.deal.new.places.len (length slots) number c.deal.new.places.ok.0 numbers, none_made number (map origin_of slots) ∙ ap entries_in (sym views))
