use Rattle.std.proofs.Common.{◌≡◌}
use Rattle.std.specs.Arc.{arc_value}
use Rattle.book.proofs.Openings.{is_first}
use Rattle.book.proofs.books.Book.open_from.Goals as goal

pub begin-requires-clause-opening : goal.begin-requires-clause-opening
begin-requires-clause-opening c =
    let program : arc_value c.in_ok-new.field-0 ≡ c.args.program = c.in_ok-new.ensures.ok in
    rw program (is_first c.args.first_ticket c.args.config c.args.program c.requires.least c.requires.most c.know_config.ensures)

pub begin-requires-clause-program : goal.begin-requires-clause-program
begin-requires-clause-program c =
    let program : arc_value c.in_ok-new.field-0 ≡ c.args.program = c.in_ok-new.ensures.ok in
    rw program c.know_program.ensures
