use Rattle.std.proofs.Common.{sym, ◌∙◌}
use Rattle.registry.proofs.Entries.{open_where}
use Rattle.registry.proofs.ticket_map.TicketMap.contains.Goals as goal

pub returns : goal.returns
returns c = rw (← c.self.view_is) (c.contains_key.ensures ∙ sym (open_where c.args.number c.self.inside.terms.entries))
