use Rattle.std.proofs.Common.{◌≡◌, ◌<◌, ◌∙◌, ℕ, List, length, map, Some, ap, refl, sym, rules, arith, String, Global}
use Rattle.std.proofs.lemmas.List.{length-map}
use Rattle.std.proofs.lemmas.Option.{slice_get_read, slice_get-map}
use Rattle.std.specs.List.{slice_get}
use Rattle.std.specs.Prelude.{option_map, string_bytes}
use Rattle.slot_desk.specs.Desks.{DeskData}
use Rattle.slot_desk.proofs.desks.Desk.name.Goals as goal

pub index-requires : goal.index-requires
index-requires c =
    let names : map (λ (s : String Global). string_bytes s) c.self.inside.names.items ≡ c.args.self.now.names = ap (λ (d : DeskData). d.names) c.self.view_is in
    let all : length c.self.inside.names.items ≡ length c.args.self.now.names = sym (length-map c.self.inside.names.items (λ (s : String Global). string_bytes s)) ∙ ap length names in
    omega (arith, c.place.ensures, all, c.self.inside.names.ok.0, c.requires.within)

pub returns : goal.returns
returns c =
    let held = c.self.inside.names.items in
    let text : String Global → List ℕ = λ s. string_bytes s in
    let names : map text held ≡ c.args.self.now.names = ap (λ (d : DeskData). d.names) c.self.view_is in
    let all : length held ≡ length c.args.self.now.names = sym (length-map held text) ∙ ap length names in
    let within : c.place.result < length held = omega (arith, c.place.ensures, all, c.requires.within) in
    let at : slice_get held c.place.result ≡ Some c.index.result.now = slice_get_read held (length held) c.place.result c.index.result.now refl within c.index.ensures in
    let told : text c.index.result.now ≡ c.as_str.result.now = search rules in
    ap (λ ns. slice_get ns c.args.service) (sym names)
    ∙ (slice_get-map text held c.args.service ∙ (ap (λ p. option_map text (slice_get held p)) (sym c.place.ensures) ∙ (ap (option_map text) at ∙ ap (λ t. Some t) told)))
