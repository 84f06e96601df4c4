use Rattle.std.proofs.Common.{[], refl, ap, sym, ◌∙◌, subst}
use Rattle.service_profile.specs.declared.configuration.ConfigParts.{ConfigParts}
use Rattle.service_profile.specs.Events.{Rolled, nothing_rolled}
use Rattle.book.specs.Books.{opening_of, journal, rolled_of, IsBook}
use Rattle.book.proofs.Applying.{rolled_is, book_told}
use Rattle.book.proofs.Openings.{first_book}
use Rattle.book.proofs.books.Book.begin.Goals as goal

pub invariant_of-result : goal.invariant_of-result
invariant_of-result c =
    rw (c.new-2.ensures, c.new-3.ensures.items) (
      book_told _ c.args.start c.in_ok-new.field-0 _ _ _
          (subst (λ (p : ConfigParts). IsBook (opening_of p c.args.start) c.in_ok-new.field-0 c.args.start.moment [] nothing_rolled) (sym c.in_ok-new.ensures.config)
          (first_book (opening_of c.args.config c.args.start) c.in_ok-new.field-0 c.requires.opening c.requires.program c.in_ok-new.ensures.stands c.in_ok-new.ensures.refused)),
      refl,
    )

pub returns-clause-opened : goal.returns-clause-opened
returns-clause-opened c =
    let book = first_book (opening_of c.args.config c.args.start) c.in_ok-new.field-0 c.requires.opening c.requires.program c.in_ok-new.ensures.stands c.in_ok-new.ensures.refused in
    let rolled_ = rolled_is c.args.config c.args.start c.in_ok-new.field-0 _ _ _ book in
    rw (c.new-2.ensures, c.new-3.ensures.items) (ap (λ (p : ConfigParts). journal (opening_of p c.args.start) [] (rolled_of 0 c.in_ok-new.field-0 c.args.start)) c.in_ok-new.ensures.config ∙ ap (λ (r : Rolled). journal (opening_of c.args.config c.args.start) [] r) (sym rolled_))

pub returns-clause-legal : goal.returns-clause-legal
returns-clause-legal c =
    let book = first_book (opening_of c.args.config c.args.start) c.in_ok-new.field-0 c.requires.opening c.requires.program c.in_ok-new.ensures.stands c.in_ok-new.ensures.refused in
    rw (c.new-2.ensures, c.new-3.ensures.items)
    (book_told _ c.args.start c.in_ok-new.field-0 _ _ _
    (subst (λ (p : ConfigParts). IsBook (opening_of p c.args.start) c.in_ok-new.field-0 c.args.start.moment [] nothing_rolled) (sym c.in_ok-new.ensures.config) book)).legal
