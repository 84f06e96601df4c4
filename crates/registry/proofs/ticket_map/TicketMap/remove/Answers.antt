use Rattle.std.proofs.Common.{◌==◌, not, sym, ap, ◌∙◌}
use Rattle.std.specs.List.{filter}
use Rattle.std.specs.Option.{option_map}
use Rattle.service_profile.specs.declared.tickets.OpenTicket.{OpenTicket}
use Rattle.registry.specs.Terms.{ticket_of, tickets_of}
use Rattle.registry.proofs.Entries.{found, removed}
use Rattle.registry.proofs.ticket_map.TicketMap.remove.Goals as goal

pub returns-clause-ticket : goal.returns-clause-ticket
returns-clause-ticket c =
    rw (← c.self.view_is) (c.ticket_of.ensures ∙ ap (option_map (ticket_of c.args.number)) c.remove.ensures.value ∙ sym (found c.args.number c.self.inside.terms.entries c.self.invariant))

pub returns-clause-others : goal.returns-clause-others
returns-clause-others c =
    ap tickets_of c.remove.ensures.entries
    ∙ removed c.args.number c.self.inside.terms.entries c.self.invariant
    ∙ ap (filter (λ (ticket : OpenTicket). not (ticket.number == c.args.number))) c.self.view_is
