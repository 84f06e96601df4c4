use Rattle.std.proofs.Common.{rules, refl}
use mathlib.Core.Option.{none}
use Rattle.atomic_table.specs.Table.{step}
use Rattle.book_slot.proofs.Keeps.{takes_at}
use Rattle.book_slot.proofs.Calling.{taken}
use Rattle.book_slot.proofs.exchange.take.Goals as goal

pub compare_exchange-requires : goal.compare_exchange-requires
compare_exchange-requires c =
    let r = c.requires.rest in
    (c.requires.here, search rules, takes_at (step 1 0 1 0 none) _ _ _ (search rules) r.0 r.2 r.1 (search rules))

pub returns-clause-taken : goal.returns-clause-taken
returns-clause-taken c = taken (step 1 0 1 0 none) _ _ _ c.requires.rest.0 c.compare_exchange.ensures.2 _ refl
