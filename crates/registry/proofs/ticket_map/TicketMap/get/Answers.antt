use Rattle.std.proofs.Common.{sym, ap, ◌∙◌}
use Rattle.std.specs.Option.{option_map}
use Rattle.registry.specs.Terms.{ticket_of}
use Rattle.registry.proofs.Entries.{found}
use Rattle.registry.proofs.ticket_map.TicketMap.get.Goals as goal

pub returns : goal.returns
returns c =
    rw (← c.self.view_is) (c.ticket_of.ensures ∙ ap (option_map (ticket_of c.args.number)) (c.copied.ensures ∙ c.get.ensures.value) ∙ sym (found c.args.number c.self.inside.terms.entries c.self.invariant))
