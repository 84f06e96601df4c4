use Rattle.std.proofs.Common.{◌∙◌, List, ap, sym}
use Rattle.std.specs.List.{position}
use Rattle.std.specs.Prelude.{bytes_eq, string_bytes}
use Rattle.http_front.specs.declared.books.NamedBook.{NamedBook}
use Rattle.http_front.proofs.Services.{position_map}
use Rattle.http_front.proofs.books.BooksAnswerer.find.Goals as goal

pub returns-clause-found : goal.returns-clause-found
returns-clause-found c =
    c.place_of.ensures.found
    ∙ (ap (λ (services : List NamedBook). position (λ (service : NamedBook). bytes_eq (string_bytes service.name) c.args.service.now) services) c.deref.ensures.value
    ∙ sym (position_map (λ (service : NamedBook). string_bytes service.name) (λ other. bytes_eq other c.args.service.now) c.args.self.now.services.items))
