use Rattle.std.proofs.Common.{sym, ◌∙◌}
use Rattle.registry.proofs.Newest.{oldest_older, oldest_newest}
use Rattle.registry.proofs.tickets.OpenTickets.oldest.Goals as goal

pub returns-in-Some : goal.returns-in-Some
returns-in-Some c =
    rw (← c.self.view_is) (oldest_older c.self.inside.older c.self.inside.newest c.in-Some.oldest (sym c.in-Some.is ∙ c.oldest.ensures))

pub returns-in-None : goal.returns-in-None
returns-in-None c =
    rw (← c.self.view_is) (oldest_newest c.self.inside.older c.self.inside.newest (sym c.in-None.is ∙ c.oldest.ensures))
