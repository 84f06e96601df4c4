use Rattle.std.proofs.Common.{◌≡◌, length, Some, refl}
use Rattle.std.proofs.lemmas.Option.{slice_get_read}
use Rattle.std.specs.List.{slice_get}
use Rattle.std.specs.Prelude.{string_bytes}
use Rattle.http_front.specs.declared.books.NamedBook.{NamedBook}
use Rattle.http_front.proofs.Services.{map_same}
use Rattle.http_front.proofs.books.BooksAnswerer.ask.Goals as goal

pub returns-clause-answered : goal.returns-clause-answered
returns-clause-answered c =
    let at : slice_get c.args.self.now.services.items c.args.place ≡ Some c.index_mut-named.result.now = slice_get_read c.args.self.now.services.items (length c.args.self.now.services.items) c.args.place c.index_mut-named.result.now refl c.requires.held c.index_mut-named.ensures.value in
    (c.index_mut-named.result.now, c.ask.new.book, at, c.ask.ensures.asked, refl)

pub returns-clause-names : goal.returns-clause-names
returns-clause-names c =
    let at : slice_get c.args.self.now.services.items c.args.place ≡ Some c.index_mut-named.result.now = slice_get_read c.args.self.now.services.items (length c.args.self.now.services.items) c.args.place c.index_mut-named.result.now refl c.requires.held c.index_mut-named.ensures.value in
    map_same (λ (service : NamedBook). string_bytes service.name) c.args.self.now.services.items c.args.place c.index_mut-named.result.now _ at refl
