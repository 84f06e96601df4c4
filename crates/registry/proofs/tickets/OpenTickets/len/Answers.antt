use Rattle.registry.proofs.Newest.{in_order_with}
use Rattle.registry.proofs.tickets.OpenTickets.len.Goals as goal

pub returns-in-Some-clause-ascending : goal.returns-in-Some-clause-ascending
returns-in-Some-clause-ascending c = rw (← c.self.view_is) (in_order_with c.self.inside.older c.self.inside.newest c.len-older.ensures.ascending c.self.invariant)
