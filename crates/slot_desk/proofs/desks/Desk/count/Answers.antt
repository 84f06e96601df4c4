use Rattle.std.proofs.Common.{◌≡◌, ◌∙◌, List, length, map, ap, sym, rules, arith, String, Global}
use Rattle.std.proofs.lemmas.List.{length-map}
use Rattle.std.specs.Prelude.{string_bytes}
use Rattle.slot_desk.specs.Desks.{DeskData}
use Rattle.slot_desk.specs.Slots.{table_of}
use Rattle.slot_desk.proofs.desks.Desk.count.Goals as goal

pub returns-clause-names : goal.returns-clause-names
returns-clause-names c =
    let all : c.len.result ≡ length c.self.inside.names.items = search rules in
    let names : map (λ (s : String Global). string_bytes s) c.self.inside.names.items ≡ c.args.self.now.names = ap (λ (d : DeskData). d.names) c.self.view_is in
    all ∙ (sym (length-map c.self.inside.names.items (λ (s : String Global). string_bytes s)) ∙ ap length names)

pub returns-clause-tables : goal.returns-clause-tables
returns-clause-tables c =
    let all : c.len.result ≡ length c.self.inside.slots.items = omega (arith, c.len.ensures, c.self.invariant.2, c.self.inside.slots.ok.0) in
    all ∙ (sym (length-map c.self.inside.slots.items table_of) ∙ ap (λ (d : DeskData). length d.tables) c.self.view_is)
