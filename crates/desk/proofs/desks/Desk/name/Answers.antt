use Rattle.std.proofs.Common.{◌≡◌, ◌<◌, ◌∙◌, ℕ, List, length, map, Some, ap, refl, sym, rules, arith}
use Rattle.std.proofs.lemmas.Option.{slice_get_read, slice_get-map}
use Rattle.std.specs.List.{slice_get}
use Rattle.std.specs.Prelude.{option_map, string_bytes}
use Rattle.desk.specs.declared.desks.LockedService.{LockedService}
use Rattle.desk.specs.Desks.{DeskData}
use Rattle.desk.specs.Services.{ServiceData}
use Rattle.desk.proofs.desks.Desk.name.Goals as goal

pub index-requires : goal.index-requires
index-requires g c =
    let all : length g.M.Offered.services ≡ length c.args.self.now.services = ap (λ (d : DeskData). length d.services) c.self.view_is in
    omega (arith, c.place.ensures, all, c.self.invariant.11, c.self.inside.services.ok.0, c.requires.held)

pub returns : goal.returns
returns g c =
    let held = c.self.inside.services.items in
    let name : LockedService g.row.L.Denot g.row.M.Denot → List ℕ = λ s. string_bytes s.name in
    let called : ServiceData → List ℕ = λ s. s.name in
    let all : length g.M.Offered.services ≡ length c.args.self.now.services = ap (λ (d : DeskData). length d.services) c.self.view_is in
    let within : c.place.result < length held = omega (arith, c.place.ensures, all, c.self.invariant.11, c.self.inside.services.ok.0, c.requires.held) in
    let at : slice_get held c.place.result ≡ Some c.index.result.now = slice_get_read held (length held) c.place.result c.index.result.now refl within c.index.ensures in
    let told : name c.index.result.now ≡ c.as_str.result.now = search rules in
    let names : map called g.M.Offered.services ≡ map name held = c.self.invariant.10 in
    let same : g.M.Offered.services ≡ c.args.self.now.services = ap (λ (d : DeskData). d.services) c.self.view_is in
    ap (λ ss. slice_get (map called ss) c.args.service) (sym same)
    ∙ (ap (λ (ns : List (List ℕ)). slice_get ns c.args.service) names
    ∙ (slice_get-map name held c.args.service ∙ (ap (λ p. option_map name (slice_get held p)) (sym c.place.ensures) ∙ (ap (option_map name) at ∙ ap (λ t. Some t) told))))
