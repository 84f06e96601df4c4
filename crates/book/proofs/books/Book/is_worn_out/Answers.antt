use Rattle.std.proofs.Common.{◌≡◌, ◌+◌, suc, length, arith, ap, ◌∙◌}
use Rattle.service_profile.specs.declared.standings.Standing.{Standing}
use Rattle.service_profile.specs.Answers.{is_worn_out}
use Rattle.service_profile.specs.Events.{History}
use Rattle.service_profile.specs.Histories.{past_of, situation_of}
use Rattle.service_profile.specs.Machine.{Situation, current_version}
use Rattle.book.specs.Books.{rolled_of, opening_of, journal, all_lines}
use Rattle.book.proofs.Applying.{line_fits, situated}
use Rattle.book.proofs.Cuts.{worn_is}
use Rattle.book.proofs.Journals.{all_count}
use Rattle.book.proofs.books.Book.is_worn_out.Goals as goal

pub overflow_add-self-inside : goal.overflow_add-self-inside
overflow_add-self-inside c = omega (arith, line_fits _ _ _ _ _ c.self.invariant.0, all_count c.self.inside.handed.items c.self.inside.entries.items c.self.inside.rolled c.self.invariant.1)

pub overflow_add-self-inside-2 : goal.overflow_add-self-inside-2
overflow_add-self-inside-2 c = omega (arith, line_fits _ _ _ _ _ c.self.invariant.0, all_count c.self.inside.handed.items c.self.inside.entries.items c.self.inside.rolled c.self.invariant.1, c.len.ensures, c.self.inside.entries.ok.0)

pub overflow_add-standing : goal.overflow_add-standing
overflow_add-standing c =
    let there = situated _ _ _ _ _ c.self.invariant.0 in
    omega (arith, ap (λ (n : Standing). n.period) (c.standing.ensures there.held there.situation there.stands), there.orderly.period)

pub overflow_add-current_version : goal.overflow_add-current_version
overflow_add-current_version c =
    let there = situated _ _ _ _ _ c.self.invariant.0 in
    omega (arith, c.current_version.ensures there.held there.situation there.stands, there.orderly.versions)

pub returns : goal.returns
returns c =
    let s : Situation = situation_of (past_of (journal (opening_of c.self.inside.service.config c.self.inside.start) (all_lines c.self.inside.handed.items c.self.inside.entries.items) (rolled_of c.self.inside.rolled c.self.inside.service c.self.inside.start))) in
    let stands = c.self.invariant.0.situated in
    let line : c.self.inside.start.line + c.self.inside.rolled + c.len.result ≡ c.self.inside.start.line + length (all_lines c.self.inside.handed.items c.self.inside.entries.items) = omega (arith, c.len.ensures, c.self.inside.entries.ok.0, all_count c.self.inside.handed.items c.self.inside.entries.items c.self.inside.rolled c.self.invariant.1) in
    let period : c.standing.result.period + 1 ≡ suc s.standing.period = omega (arith, ap (λ (n : Standing). n.period) (c.standing.ensures _ _ stands)) in
    let version : c.current_version.result + 1 ≡ suc (current_version s) = omega (arith, c.current_version.ensures _ _ stands) in
    rw (c.are_worn_out.ensures, line, c.next_ticket.ensures _ _ stands, period, version) (worn_is (opening_of c.self.inside.service.config c.self.inside.start) (all_lines c.self.inside.handed.items c.self.inside.entries.items) (rolled_of c.self.inside.rolled c.self.inside.service c.self.inside.start)) ∙ ap (λ (h : History). is_worn_out (past_of h)) c.self.view_is
