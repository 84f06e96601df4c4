use Rattle.std.proofs.Common.{◌≡◌, suc, ◌+◌, ◌-◌, length, arith, ap, ◌∙◌}
use Rattle.service_profile.specs.Events.{History}
use Rattle.service_profile.specs.Histories.{past_of, next_line}
use Rattle.book.proofs.Applying.{line_fits}
use Rattle.book.proofs.Openings.{line_least, next_line_is}
use Rattle.book.specs.Books.{rolled_of, all_lines}
use Rattle.book.proofs.Journals.{all_count}
use Rattle.book.proofs.books.Book.last_number.Goals as goal

pub overflow_add-result : goal.overflow_add-result
overflow_add-result c = omega (arith, line_fits _ _ _ _ _ c.self.invariant.0, all_count c.self.inside.handed.items c.self.inside.entries.items c.self.inside.rolled c.self.invariant.1)

pub overflow_add-result-2 : goal.overflow_add-result-2
overflow_add-result-2 c = omega (arith, line_fits _ _ _ _ _ c.self.invariant.0, all_count c.self.inside.handed.items c.self.inside.entries.items c.self.inside.rolled c.self.invariant.1, c.len.ensures, c.self.inside.entries.ok.0)

pub overflow_sub-result : goal.overflow_sub-result
overflow_sub-result c = omega (arith, line_least _ _ _ _ _ c.self.invariant.0)

pub returns-clause-number : goal.returns-clause-number
returns-clause-number c =
    let here : suc (c.self.inside.start.line + c.self.inside.rolled + c.len.result - 1) ≡ c.self.inside.start.line + length (all_lines c.self.inside.handed.items c.self.inside.entries.items) = omega (arith, line_least _ _ _ _ _ c.self.invariant.0, all_count c.self.inside.handed.items c.self.inside.entries.items c.self.inside.rolled c.self.invariant.1, c.len.ensures, c.self.inside.entries.ok.0) in
    here ∙ next_line_is _ (all_lines c.self.inside.handed.items c.self.inside.entries.items) (rolled_of c.self.inside.rolled c.self.inside.service c.self.inside.start) ∙ ap (λ (h : History). next_line (past_of h)) c.self.view_is
