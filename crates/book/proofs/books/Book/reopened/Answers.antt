use Rattle.std.proofs.Common.{◌≡◌, suc, ◌+◌, IfOk, [], length, arith, ap, sym, ◌∙◌, subst}
use Rattle.std.specs.Arc.{arc_value}
use Rattle.service_profile.specs.declared.standings.Standing.{Standing}
use Rattle.service_profile.specs.Answers.{current_program, is_worn_out, reopened}
use Rattle.service_profile.specs.Events.{History, Opening, history_of}
use Rattle.service_profile.specs.Histories.{Past, past_of, situation_of}
use Rattle.service_profile.specs.Openings.{IsOpening}
use Rattle.book.specs.Books.{rolled_of, opening_of, journal, all_lines}
use Rattle.book.specs.Accepted.{IsSafeProgram}
use Rattle.book.proofs.Applying.{line_fits, situated}
use Rattle.book.proofs.Cuts.{current_is, made_so, reopened_is, reopens_well}
use Rattle.book.proofs.Journals.{all_count}
use Rattle.book.proofs.Worlds.{current_accepted}
use Rattle.book.proofs.books.Book.reopened.Goals as goal

pub overflow_add-start : goal.overflow_add-start
overflow_add-start c =
    let there = situated _ _ _ _ _ c.self.invariant.0 in
    omega (arith, ap (λ (n : Standing). n.period) (c.standing.ensures there.held there.situation there.stands), there.orderly.period)

pub overflow_add-start-2 : goal.overflow_add-start-2
overflow_add-start-2 c = omega (arith, line_fits _ _ _ _ _ c.self.invariant.0, all_count c.self.inside.handed.items c.self.inside.entries.items c.self.inside.rolled c.self.invariant.1)

pub overflow_add-start-3 : goal.overflow_add-start-3
overflow_add-start-3 c = omega (arith, line_fits _ _ _ _ _ c.self.invariant.0, all_count c.self.inside.handed.items c.self.inside.entries.items c.self.inside.rolled c.self.invariant.1, c.len.ensures, c.self.inside.entries.ok.0)

pub begin-requires-clause-opening : goal.begin-requires-clause-opening
begin-requires-clause-opening c =
    let past : Past = past_of (journal (opening_of c.self.inside.service.config c.self.inside.start) (all_lines c.self.inside.handed.items c.self.inside.entries.items) (rolled_of c.self.inside.rolled c.self.inside.service c.self.inside.start)) in
    let stands = c.self.invariant.0.situated in
    let program : arc_value c.in_ok-try_clone.field-0 ≡ current_program past = c.in_ok-try_clone.ensures ∙ current_is past (arc_value c.current_program.result.now) (c.current_program.ensures _ _ stands) in
    let period : c.standing.result.period + 1 ≡ suc (situation_of past).standing.period = omega (arith, ap (λ (n : Standing). n.period) (c.standing.ensures _ _ stands)) in
    let line : c.self.inside.start.line + c.self.inside.rolled + c.len.result ≡ c.self.inside.start.line + length (all_lines c.self.inside.handed.items c.self.inside.entries.items) = omega (arith, c.len.ensures, c.self.inside.entries.ok.0, all_count c.self.inside.handed.items c.self.inside.entries.items c.self.inside.rolled c.self.invariant.1) in
    let same = made_so (situation_of past) c.self.inside.service.config (arc_value c.in_ok-try_clone.field-0) _ _ _ _ _ c.self.inside.moment stands.configured (c.current_version.ensures _ _ stands) period (c.next_ticket.ensures _ _ stands) line
    ∙ reopened_is _ _ _ (all_lines c.self.inside.handed.items c.self.inside.entries.items) _ _ c.self.invariant.0 program in
    let fresh = ap (λ (h : History). is_worn_out (past_of h)) c.self.view_is ∙ c.requires in
    subst (λ (o : Opening). IsOpening o) (sym same) (reopens_well _ _ _ (all_lines c.self.inside.handed.items c.self.inside.entries.items) _ c.self.invariant.0 fresh)

pub begin-requires-clause-program : goal.begin-requires-clause-program
begin-requires-clause-program c =
    let past : Past = past_of (journal (opening_of c.self.inside.service.config c.self.inside.start) (all_lines c.self.inside.handed.items c.self.inside.entries.items) (rolled_of c.self.inside.rolled c.self.inside.service c.self.inside.start)) in
    let program : arc_value c.in_ok-try_clone.field-0 ≡ current_program past = c.in_ok-try_clone.ensures ∙ current_is past (arc_value c.current_program.result.now) (c.current_program.ensures _ _ c.self.invariant.0.situated) in
    subst IsSafeProgram (sym program) (current_accepted past c.self.invariant.0.sound)

pub returns-clause-opened : goal.returns-clause-opened
returns-clause-opened c =
    let past : Past = past_of (journal (opening_of c.self.inside.service.config c.self.inside.start) (all_lines c.self.inside.handed.items c.self.inside.entries.items) (rolled_of c.self.inside.rolled c.self.inside.service c.self.inside.start)) in
    let stands = c.self.invariant.0.situated in
    let program : arc_value c.in_ok-try_clone.field-0 ≡ current_program past = c.in_ok-try_clone.ensures ∙ current_is past (arc_value c.current_program.result.now) (c.current_program.ensures _ _ stands) in
    let period : c.standing.result.period + 1 ≡ suc (situation_of past).standing.period = omega (arith, ap (λ (n : Standing). n.period) (c.standing.ensures _ _ stands)) in
    let line : c.self.inside.start.line + c.self.inside.rolled + c.len.result ≡ c.self.inside.start.line + length (all_lines c.self.inside.handed.items c.self.inside.entries.items) = omega (arith, c.len.ensures, c.self.inside.entries.ok.0, all_count c.self.inside.handed.items c.self.inside.entries.items c.self.inside.rolled c.self.invariant.1) in
    let same = made_so (situation_of past) c.self.inside.service.config (arc_value c.in_ok-try_clone.field-0) _ _ _ _ _ c.self.inside.moment stands.configured (c.current_version.ensures _ _ stands) period (c.next_ticket.ensures _ _ stands) line
    ∙ reopened_is _ _ _ (all_lines c.self.inside.handed.items c.self.inside.entries.items) _ _ c.self.invariant.0 program in
    let there = same ∙ ap (λ (h : History). reopened (past_of h)) c.self.view_is in
    subst (λ (o : Opening). IfOk c.begin.result (λ book. book ≡ history_of o [])) there c.begin.ensures.opened
