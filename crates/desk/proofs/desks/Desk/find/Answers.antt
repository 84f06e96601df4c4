use Rattle.std.proofs.Common.{◌≡◌, ◌∙◌, ap, sym, rules, map, Some, None, List, ℕ}
use Rattle.std.specs.List.{position}
use Rattle.std.specs.Prelude.{bytes_eq, string_bytes}
use Rattle.desk.specs.declared.desks.LockedService.{LockedService}
use Rattle.desk.specs.Desks.{DeskData}
use Rattle.desk.specs.Services.{ServiceData}
use Rattle.desk.proofs.Places.{position_named}
use Rattle.desk.proofs.desks.Desk.find.Goals as goal

pub returns-in-Some-clause-found : goal.returns-in-Some-clause-found
returns-in-Some-clause-found g c =
    let here : position (λ (s : LockedService g.row.L.Denot g.row.M.Denot). bytes_eq (string_bytes s.name) c.args.name.now) c.self.inside.services.items ≡ Some c.in-Some.place = search rules in
    let named = position_named (λ called. bytes_eq called c.args.name.now) (λ (s : LockedService g.row.L.Denot g.row.M.Denot). string_bytes s.name) c.self.inside.services.items in
    let offered = position_named (λ called. bytes_eq called c.args.name.now) (λ (s : ServiceData). s.name) g.M.Offered.services in
    let names : map (λ (s : ServiceData). s.name) g.M.Offered.services ≡ map (λ (s : LockedService g.row.L.Denot g.row.M.Denot). string_bytes s.name) c.self.inside.services.items = c.self.invariant.10 in
    let same : g.M.Offered.services ≡ c.args.self.now.services = ap (λ (d : DeskData). d.services) c.self.view_is in
    rw (sym same) (sym (sym offered ∙ (ap (λ (ns : List (List ℕ)). position (λ called. bytes_eq called c.args.name.now) ns) names ∙ (named ∙ here))))

pub returns-in-None-clause-found : goal.returns-in-None-clause-found
returns-in-None-clause-found g c =
    let here : position (λ (s : LockedService g.row.L.Denot g.row.M.Denot). bytes_eq (string_bytes s.name) c.args.name.now) c.self.inside.services.items ≡ None = search rules in
    let named = position_named (λ called. bytes_eq called c.args.name.now) (λ (s : LockedService g.row.L.Denot g.row.M.Denot). string_bytes s.name) c.self.inside.services.items in
    let offered = position_named (λ called. bytes_eq called c.args.name.now) (λ (s : ServiceData). s.name) g.M.Offered.services in
    let names : map (λ (s : ServiceData). s.name) g.M.Offered.services ≡ map (λ (s : LockedService g.row.L.Denot g.row.M.Denot). string_bytes s.name) c.self.inside.services.items = c.self.invariant.10 in
    let same : g.M.Offered.services ≡ c.args.self.now.services = ap (λ (d : DeskData). d.services) c.self.view_is in
    rw (sym same) (sym (sym offered ∙ (ap (λ (ns : List (List ℕ)). position (λ called. bytes_eq called c.args.name.now) ns) names ∙ (named ∙ here))))
