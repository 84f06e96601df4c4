use Rattle.std.proofs.Common.{sym, ap, ◌∙◌}
use Rattle.std.specs.Option.{option_map}
use Rattle.registry.specs.Terms.{ticket_of}
use Rattle.registry.proofs.Entries.{oldest_is}
use Rattle.registry.proofs.ticket_map.TicketMap.oldest.Goals as goal

pub returns-in-Some : goal.returns-in-Some
returns-in-Some c =
    rw (← c.self.view_is) (c.ticket_of.ensures ∙ ap (option_map (λ e. ticket_of e.0.0 e.1)) (sym c.in-Some.ensures.last) ∙ sym (oldest_is c.self.inside.terms.entries))
