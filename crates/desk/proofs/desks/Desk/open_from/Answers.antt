use Rattle.std.proofs.Common.{ap, ◌≡◌, ◌∙◌, length, rules, arith}
use Rattle.std.proofs.lemmas.List.{length-map}
use Rattle.std.specs.Prelude.{string_bytes}
use Rattle.desk.specs.declared.desks.LockedService.{LockedService}
use Rattle.desk.specs.Services.{service_from}
use Rattle.desk.proofs.Descent.{names_offered, as_many_offered}
use Rattle.desk.proofs.desks.Desk.open_from.Goals as goal

pub invariant_of-result : goal.invariant_of-result
invariant_of-result g c =
    let names = names_offered c.args.first_ticket (λ (s : LockedService g.row.L.Denot g.row.M.Denot). string_bytes s.name) g.M.Offered.services c.args.services.items c.in_ok-services.services.items c.requires.offered c.in_ok-services.ensures.names in
    let all : length g.M.Offered.services ≡ length c.in_ok-services.services.items = as_many_offered c.args.first_ticket (λ (s : LockedService g.row.L.Denot g.row.M.Denot). string_bytes s.name) g.M.Offered.services c.args.services.items c.in_ok-services.services.items c.requires.offered c.in_ok-services.ensures.names in
    let len : c.in_ok-services.services.len ≡ length c.in_ok-services.services.items = c.in_ok-services.services.ok.0 in
    let many : length g.M.Offered.services ≡ length c.args.services.items = ap length c.requires.offered ∙ length-map c.args.services.items (service_from c.args.first_ticket) in
    let given : c.args.services.len ≡ length c.args.services.items = c.args.services.ok.0 in
    (search rules, omega (arith, all, len, many, given, c.requires.few), search rules, search rules, search rules, search rules, search rules, search rules, search rules, search rules, names, omega (arith, all, len))
