use Rattle.std.proofs.Common.{◌≡◌, ◌+◌, ◌-◌, sym, ap, ◌∙◌, arith, length, map}
use Rattle.std.specs.Arc.{arc_value}
use Rattle.registry.specs.Registries.{current_version, IsTicketOf}
use Rattle.registry.proofs.Keeping.{one_more}
use Rattle.registry.proofs.holdings.Registry.issue.Goals as goal

pub invariant_of-self-2 : goal.invariant_of-self-2
invariant_of-self-2 c =
    let r = c.self.inside in
    let kept = c.self.invariant in
    let versions = length (map arc_value r.programs.items) in
    let current : c.current_version.result ≡ r.first_version + (versions - 1) = c.current_version.ensures ∙ ap current_version (sym c.self.view_is) in
    let ticket : IsTicketOf r.first_version versions (r.next_ticket + 1) (record { number = r.next_ticket; version = c.current_version.result; period = c.args.period; moment = c.args.moment }) = record {
      given = kept.begun;
      before = omega arith;
      not_older = omega (arith, current);
      not_newer = omega (arith, current, kept.some);
    } in
    record {
      some = kept.some;
      few = kept.few;
      numbered = kept.numbered;
      begun = omega (arith, kept.begun);
      tickets = rw c.in_ok-insert.ensures.ok (one_more r.first_version versions r.next_ticket r.open_tickets _ kept.tickets ticket);
    }
