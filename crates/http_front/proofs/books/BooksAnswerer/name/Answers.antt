use Rattle.std.proofs.Common.{◌≡◌, ◌<◌, ◌∙◌, ℕ, List, length, Some, ap, refl, subst, rules, arith}
use Rattle.std.proofs.lemmas.List.{length-map}
use Rattle.std.proofs.lemmas.Option.{slice_get_read, slice_get-map}
use Rattle.std.specs.List.{slice_get}
use Rattle.std.specs.Prelude.{option_map, string_bytes}
use Rattle.http_front.specs.declared.books.NamedBook.{NamedBook}
use Rattle.http_front.proofs.books.BooksAnswerer.name.Goals as goal

pub index-requires : goal.index-requires
index-requires c =
    let within : c.args.place < length c.args.self.now.services.items = subst (λ n. c.args.place < n) (length-map c.args.self.now.services.items (λ (service : NamedBook). string_bytes service.name)) c.requires.within in
    omega (arith, within, c.args.self.now.services.ok.0)

pub returns : goal.returns
returns c =
    let services = c.args.self.now.services.items in
    let name : NamedBook → List ℕ = λ service. string_bytes service.name in
    let within : c.args.place < length services = subst (λ n. c.args.place < n) (length-map services name) c.requires.within in
    let at : slice_get services c.args.place ≡ Some c.index.result.now = slice_get_read services (length services) c.args.place c.index.result.now refl within c.index.ensures in
    let told : name c.index.result.now ≡ c.as_str.result.now = search rules in
    slice_get-map name services c.args.place ∙ ap (option_map name) at ∙ ap (λ text. Some text) told
