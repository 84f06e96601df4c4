use Rattle.std.proofs.Common.{sym, ap, ◌∙◌}
use Rattle.std.specs.Option.{is_some}
use Rattle.registry.proofs.Keeping.{found_is_in, open_where_found}
use Rattle.registry.proofs.holdings.Registry.ticket.Goals as goal

pub returns-in-None-clause-open : goal.returns-in-None-clause-open
returns-in-None-clause-open c = λ held.
    ap is_some (sym c.in-None.is ∙ c.open_ticket.ensures.ticket) ∙ (sym (open_where_found c.args.self.now.open_tickets c.args.number) ∙ held)

pub returns-in-Some-clause-ticket : goal.returns-in-Some-clause-ticket
returns-in-Some-clause-ticket c =
    found_is_in c.args.self.now c.args.number c.in-Some.open (sym c.open_ticket.ensures.ticket ∙ c.in-Some.is) c.in-Some.ensures.held
