use Rattle.std.proofs.Common.{◌≡◌, ◌∙◌, length, sym, rules, arith}
use Rattle.std.proofs.lemmas.List.{length-map}
use Rattle.std.specs.Prelude.{string_bytes}
use Rattle.http_front.specs.declared.books.NamedBook.{NamedBook}
use Rattle.http_front.proofs.books.BooksAnswerer.count.Goals as goal

pub returns-clause-count : goal.returns-clause-count
returns-clause-count c =
    let all : c.len.result ≡ length c.args.self.now.services.items = search rules in
    all ∙ sym (length-map c.args.self.now.services.items (λ (service : NamedBook). string_bytes service.name))

pub returns-clause-held : goal.returns-clause-held
returns-clause-held c =
    let all : c.len.result ≡ length c.args.self.now.services.items = search rules in
    λ place within. omega (arith, all, within)
