use Rattle.std.proofs.Common.{rules}
use mathlib.Core.Option.{none}
use Rattle.atomic_table.specs.Table.{step}
use Rattle.book_slot.proofs.Keeps.{puts_at}
use Rattle.book_slot.proofs.exchange.put.Goals as goal

pub swap-requires : goal.swap-requires
swap-requires c =
    let r = c.requires.rest in
    let h = c.requires.held in
    (c.requires.here, search rules, puts_at (step 1 0 1 0 none) _ _ _ _ (search rules) h.1 r.1 r.0 h.2)

pub returns-clause-rest : goal.returns-clause-rest
returns-clause-rest c = (c.swap.ensures.2 c.requires.held.0 c.requires.held.1).1
