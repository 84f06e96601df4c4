use Rattle.std.proofs.Common.{◌≡◌, ◌∙◌, ap, sym, rules, map, Some, None, List, ℕ, String, Global}
use Rattle.std.specs.List.{position}
use Rattle.std.specs.Prelude.{bytes_eq, string_bytes}
use Rattle.slot_desk.specs.Desks.{DeskData}
use Rattle.slot_desk.proofs.Naming.{position_named}
use Rattle.slot_desk.proofs.desks.Desk.find.Goals as goal

pub returns-in-Some-clause-found : goal.returns-in-Some-clause-found
returns-in-Some-clause-found c =
    let here : position (λ (s : String Global). bytes_eq (string_bytes s) c.args.name.now) c.self.inside.names.items ≡ Some c.in-Some.place = search rules in
    let named = position_named (λ other. bytes_eq other c.args.name.now) (λ (s : String Global). string_bytes s) c.self.inside.names.items in
    let names : map (λ (s : String Global). string_bytes s) c.self.inside.names.items ≡ c.args.self.now.names = ap (λ (d : DeskData). d.names) c.self.view_is in
    let there : position (λ other. bytes_eq other c.args.name.now) c.args.self.now.names ≡ Some c.in-Some.place = sym (ap (λ (ns : List (List ℕ)). position (λ other. bytes_eq other c.args.name.now) ns) names) ∙ (named ∙ here) in
    rw c.at.ensures (sym there)

pub returns-in-None-clause-found : goal.returns-in-None-clause-found
returns-in-None-clause-found c =
    let here : position (λ (s : String Global). bytes_eq (string_bytes s) c.args.name.now) c.self.inside.names.items ≡ None = search rules in
    let named = position_named (λ other. bytes_eq other c.args.name.now) (λ (s : String Global). string_bytes s) c.self.inside.names.items in
    let names : map (λ (s : String Global). string_bytes s) c.self.inside.names.items ≡ c.args.self.now.names = ap (λ (d : DeskData). d.names) c.self.view_is in
    sym (sym (ap (λ (ns : List (List ℕ)). position (λ other. bytes_eq other c.args.name.now) ns) names) ∙ (named ∙ here))
