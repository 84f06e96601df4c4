use Rattle.std.proofs.Common.{◌≡◌, ◌+◌, ◌*◌, ◌++◌, List, length, map}
use Rattle.std.specs.Prelude.{string_bytes}
use Rattle.std.specs.Vec.Iter.{into_iter_items}
use Rattle.desk.specs.Kept.{most_numbers, most_cuts}
use Rattle.desk.proofs.desks.behind_locks.Given as goal

abbrev pub invariant-loop-name : goal.invariant-loop-name
invariant-loop-name g l =
    (goal.iterator-loop-name g).can_next l.name-iterator
    × (goal.iterator-loop-name g).is_finite l.name-iterator
    × ((done : List _)
    × (l.fn.services.items ≡ done ++ into_iter_items l.name-iterator)
    × (map (λ service. string_bytes service.name) l.behind.items ≡ map (λ service. string_bytes service.0) done)
    × (length l.behind.items ≡ length done)
    × (l.entries.left.parts + length l.behind.items ≡ l.initial.entries.left.parts)
    × (l.entries.left.amount ≡ 0)
    × (l.entries.book.total ≡ l.initial.entries.book.total + length l.behind.items * most_numbers)
    × (l.cuts.left.parts + length l.behind.items ≡ l.initial.cuts.left.parts)
    × (l.cuts.left.amount ≡ 0)
    × (l.cuts.book.total ≡ l.initial.cuts.book.total + length l.behind.items * most_cuts))
