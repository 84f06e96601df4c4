use Rattle.std.proofs.Common.{sym, ◌∙◌}
use Rattle.registry.proofs.Entries.{as_many, in_order}
use Rattle.registry.proofs.ticket_map.TicketMap.len.Goals as goal

pub returns-clause-len : goal.returns-clause-len
returns-clause-len c = rw (← c.self.view_is) (c.len.ensures.len ∙ sym (as_many c.self.inside.terms.entries))

pub returns-clause-ascending : goal.returns-clause-ascending
returns-clause-ascending c = rw (← c.self.view_is) (in_order c.self.inside.terms.entries c.self.invariant)
