use Rattle.std.proofs.Common.{List, Option, IfSome, length, sym, ap, subst, ◌∙◌}
use Rattle.service_profile.specs.Machine.{open_ticket}
use Rattle.service_profile.specs.declared.tickets.OpenTicket.{OpenTicket}
use Rattle.registry.specs.Registries.{RegistryData, IsTicketOf, ticket_in}
use Rattle.registry.specs.contracts.holdings.Registry.{the_view}
use Rattle.registry.proofs.Keeping.{found_is_in, found_keeps, kept_without, none_ended}
use Rattle.registry.proofs.holdings.Registry.end.Goals as goal

pub invariant_of-self : goal.invariant_of-self
invariant_of-self c = rw c.remove.ensures.others (kept_without (the_view c.self.inside) c.args.ticket c.self.invariant)

pub invariant_of-self-2 : goal.invariant_of-self-2
invariant_of-self-2 c = rw c.remove.ensures.others (kept_without (the_view c.self.inside) c.args.ticket c.self.invariant)

pub why_not_open-requires : goal.why_not_open-requires
why_not_open-requires c =
    let is = sym c.remove.ensures.ticket ∙ c.in_default.is in
    record { closed = ap (λ (tickets : List OpenTicket). open_ticket tickets c.args.ticket) (c.remove.ensures.others ∙ none_ended c.self.inside.open_tickets c.args.ticket is) ∙ is }

pub returns-clause-ticket : goal.returns-clause-ticket
returns-clause-ticket c =
    let r = the_view c.self.inside in
    let is = sym c.remove.ensures.ticket ∙ c.in-Some.is in
    let held = found_keeps (IsTicketOf r.first_version (length r.programs) r.next_ticket) r.open_tickets c.args.ticket c.self.invariant.tickets in
    found_is_in r c.args.ticket c.in-Some.ended is (subst (λ (o : Option OpenTicket). IfSome o (IsTicketOf r.first_version (length r.programs) r.next_ticket)) is held) ∙ ap (λ (s : RegistryData). ticket_in s c.args.ticket) c.self.view_is

pub returns-in_default-clause-ticket : goal.returns-in_default-clause-ticket
returns-in_default-clause-ticket c =
    let r = the_view c.self.inside in
    let same = none_ended r.open_tickets c.args.ticket (sym c.remove.ensures.ticket ∙ c.in_default.is) in
    c.why_not_open.ensures
    ∙ ap (λ (tickets : List OpenTicket). ticket_in (record r { open_tickets = tickets }) c.args.ticket) (c.remove.ensures.others ∙ same)
    ∙ ap (λ (s : RegistryData). ticket_in s c.args.ticket) c.self.view_is

pub returns-in_default-clause-err : goal.returns-in_default-clause-err
returns-in_default-clause-err c =
    let r = the_view c.self.inside in
    let same = none_ended r.open_tickets c.args.ticket (sym c.remove.ensures.ticket ∙ c.in_default.is) in
    ap (λ (tickets : List OpenTicket). record r { open_tickets = tickets }) (c.remove.ensures.others ∙ same) ∙ c.self.view_is
