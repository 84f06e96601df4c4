use Rattle.std.proofs.Common.{◌≡◌, ℕ, ◌-◌, arith, ap, ◌∙◌}
use Rattle.service_profile.specs.Answers.{lines_from}
use Rattle.service_profile.specs.Events.{History}
use Rattle.book.proofs.Applying.{line_fits}
use Rattle.book.proofs.Journals.{all_count, from_held, rest_of}
use Rattle.book.proofs.books.Book.entries.Goals as goal

pub overflow_add-self-inside : goal.overflow_add-self-inside
overflow_add-self-inside c = omega (arith, line_fits _ _ _ _ _ c.self.invariant.0, all_count c.self.inside.handed.items c.self.inside.entries.items c.self.inside.rolled c.self.invariant.1)

pub returns-clause-entries : goal.returns-clause-entries
returns-clause-entries c =
    let passed : ℕ = c.args.from - c.self.inside.start.line in
    let first : c.saturating_sub-passed.result ≡ passed - c.self.inside.rolled = omega (arith, c.saturating_sub-passed.ensures) in
    rest_of c.deref.result.now c.self.inside.entries.items c.min-first.result c.saturating_sub-passed.result c.len.result c.deref.ensures.value (c.len.ensures ∙ c.self.inside.entries.ok.0) c.min-first.ensures
    ∙ from_held c.self.inside.handed.items c.self.inside.entries.items c.self.inside.rolled passed c.saturating_sub-passed.result c.self.invariant.1 first
    ∙ ap (λ (h : History). lines_from h c.args.from) c.self.view_is
