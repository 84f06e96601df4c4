use Rattle.std.proofs.Common.{◌≡◌, ◌++◌, [], List, length, map, replicate}
use Rattle.std.specs.Prelude.{string_bytes}
use Rattle.std.specs.Vec.Iter.{into_iter_items}
use Rattle.slot_desk.specs.Dealing.{name_of, first_from}
use Rattle.slot_desk.specs.Slots.{origin_of, dealt_of, back_of, known_of}
use Rattle.slot_desk.proofs.desks.opened.Given as goal

abbrev pub invariant-loop-name : goal.invariant-loop-name
invariant-loop-name l =
    goal.iterator-loop-name.can_next l.name-iterator
    × goal.iterator-loop-name.is_finite l.name-iterator
    × ((done : List _)
    × (l.fn.services.items ≡ done ++ into_iter_items l.name-iterator)
    × (map string_bytes l.names.items ≡ map name_of done)
    × (map origin_of l.slots.items ≡ map (first_from l.fn.first_ticket) done)
    × (map dealt_of l.slots.items ≡ replicate (length done) 0)
    × (map back_of l.slots.items ≡ replicate (length done) 0)
    × (map known_of l.slots.items ≡ replicate (length done) []))
