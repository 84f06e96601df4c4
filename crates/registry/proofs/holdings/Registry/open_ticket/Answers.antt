use Rattle.std.proofs.Common.{length, map}
use Rattle.std.specs.Arc.{arc_value}
use Rattle.registry.specs.Registries.{IsTicketOf}
use Rattle.registry.proofs.Keeping.{found_keeps}
use Rattle.registry.proofs.holdings.Registry.open_ticket.Goals as goal

pub returns-clause-held : goal.returns-clause-held
returns-clause-held c =
    let r = c.self.inside in
    rw (← c.self.view_is, c.get.ensures) (found_keeps (IsTicketOf r.first_version (length (map arc_value r.programs.items)) r.next_ticket) r.open_tickets c.args.number c.self.invariant.tickets)
