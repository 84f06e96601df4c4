use Rattle.std.proofs.Common.{length, map, ◌∙◌}
use Rattle.std.specs.Arc.{arc_value}
use Rattle.registry.proofs.Keeping.{open_is_issued}
use Rattle.registry.proofs.holdings.Registry.is_issued.Goals as goal

pub returns-clause-open : goal.returns-clause-open
returns-clause-open c =
    let r = c.self.inside in
    rw (← c.self.view_is) (λ held. c.was_given.ensures ∙ open_is_issued r.first_version (length (map arc_value r.programs.items)) r.next_ticket r.open_tickets c.args.number c.self.invariant.tickets held)
