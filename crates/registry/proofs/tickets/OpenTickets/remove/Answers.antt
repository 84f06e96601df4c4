use Rattle.std.proofs.Common.{sym, subst, ◌∙◌}
use Rattle.registry.proofs.Newest.{newest_found, older_found, newest_ended, still_newest}
use Rattle.registry.specs.Newest.{IsNewest}
use Rattle.registry.proofs.tickets.OpenTickets.remove.Goals as goal

pub returns-then-has_number-clause-ticket : goal.returns-then-has_number-clause-ticket
returns-then-has_number-clause-ticket c =
    rw (← c.self.view_is) (newest_found c.args.number c.self.inside.older c.self.inside.newest c.self.invariant (sym c.if-has_number.ensures))

pub returns-then-has_number-clause-others : goal.returns-then-has_number-clause-others
returns-then-has_number-clause-others c =
    rw (← c.self.view_is) (newest_ended c.args.number c.self.inside.older c.self.inside.newest c.self.invariant (sym c.if-has_number.ensures))

pub invariant_of-self-2 : goal.invariant_of-self-2
invariant_of-self-2 c =
    subst (λ older. IsNewest older c.self.inside.newest) (sym c.remove.ensures.others) (still_newest c.args.number c.self.inside.older c.self.inside.newest c.self.invariant)

pub returns-clause-ticket : goal.returns-clause-ticket
returns-clause-ticket c =
    rw (← c.self.view_is) (c.remove.ensures.ticket ∙ older_found c.args.number c.self.inside.older c.self.inside.newest (sym c.if-has_number.ensures))
