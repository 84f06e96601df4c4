use Rattle.std.proofs.Common.{ap, subst, ◌<◌, ◌∙◌, ◌∷◌, [], ◌++◌, List, sym}
use Rattle.std.specs.List.{AllByRecursion}
use Rattle.service_profile.specs.declared.tickets.OpenTicket.{OpenTicket}
use Rattle.registry.specs.Terms.{tickets_of}
use Rattle.registry.proofs.Entries.{appended}
use Rattle.registry.proofs.ticket_map.TicketMap.insert.Goals as goal

pub returns-clause-ok : goal.returns-clause-ok
returns-clause-ok c =
    ap tickets_of c.in_ok-insert.ensures.entries
    ∙ appended c.args.ticket.number (record { version = c.args.ticket.version; period = c.args.ticket.period; moment = c.args.ticket.moment }) c.self.inside.terms.entries (subst (AllByRecursion (λ other. other.number < c.args.ticket.number)) (sym c.self.view_is) c.requires)
    ∙ ap (λ (ts : List OpenTicket). ts ++ c.args.ticket ∷ []) c.self.view_is
