use Rattle.std.proofs.Common.{sym, ◌∙◌}
use Rattle.registry.proofs.Newest.{newest_found, older_found}
use Rattle.registry.proofs.tickets.OpenTickets.get.Goals as goal

pub returns-then-has_number : goal.returns-then-has_number
returns-then-has_number c =
    rw (← c.self.view_is) (newest_found c.args.number c.self.inside.older c.self.inside.newest c.self.invariant (sym c.if-has_number.ensures))

pub returns : goal.returns
returns c =
    rw (← c.self.view_is) (c.get.ensures ∙ older_found c.args.number c.self.inside.older c.self.inside.newest (sym c.if-has_number.ensures))
