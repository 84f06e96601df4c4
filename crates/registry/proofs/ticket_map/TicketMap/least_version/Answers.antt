use Rattle.std.proofs.Common.{sym, ◌∙◌}
use Rattle.registry.proofs.Entries.{least_over}
use Rattle.registry.proofs.ticket_map.TicketMap.least_version.Goals as goal

pub returns : goal.returns
returns c = rw (← c.self.view_is) (c.least_of.ensures ∙ sym (least_over c.args.current c.self.inside.terms.entries))
