use Rattle.std.proofs.Common.{◌≡◌, length, true, false, Ok, arith, ap, sym, ◌∙◌, refl}
use Rattle.service_profile.specs.Answers.{is_some_open, reopened, no_room, cuts, handed_out, held_lines, after_cut}
use Rattle.service_profile.specs.Events.{History}
use Rattle.service_profile.specs.Histories.{past_of, situation_of}
use Rattle.service_profile.specs.Machine.{Situation}
use Rattle.book.specs.Books.{rolled_of, opening_of, journal, all_lines}
use Rattle.book.proofs.Cuts.{none_open, some_open, cut_there, cut_refused}
use Rattle.book.proofs.Journals.{all_held}
use Rattle.book.proofs.books.Book.cut.Goals as goal

pub returns-in-Err-clause-cut : goal.returns-in-Err-clause-cut
returns-in-Err-clause-cut c =
    let s : Situation = situation_of (past_of (journal (opening_of c.self.inside.service.config c.self.inside.start) (all_lines c.self.inside.handed.items c.self.inside.entries.items) (rolled_of c.self.inside.rolled c.self.inside.service c.self.inside.start))) in
    let none : length s.open_tickets ≡ 0 = omega (arith, c.open_count.ensures _ _ c.self.invariant.0.situated, c.if-open_count-gt0.false) in
    let closed : is_some_open (situation_of (past_of c.args.self.now)).open_tickets ≡ false = ap (λ (h : History). is_some_open (situation_of (past_of h)).open_tickets) (sym c.self.view_is) ∙ none_open s.open_tickets none in
    no_room (reopened (past_of c.args.self.now)) (cut_there (past_of c.args.self.now) (sym c.if-is_worn_out.ensures) closed) refl refl

pub returns-then-open_count-gt0-clause-cut : goal.returns-then-open_count-gt0-clause-cut
returns-then-open_count-gt0-clause-cut c =
    let s : Situation = situation_of (past_of (journal (opening_of c.self.inside.service.config c.self.inside.start) (all_lines c.self.inside.handed.items c.self.inside.entries.items) (rolled_of c.self.inside.rolled c.self.inside.service c.self.inside.start))) in
    let there : is_some_open (situation_of (past_of c.args.self.now)).open_tickets ≡ true =
    ap (λ (h : History). is_some_open (situation_of (past_of h)).open_tickets) (sym c.self.view_is) ∙ some_open s.open_tickets (omega (arith, c.open_count.ensures _ _ c.self.invariant.0.situated, c.if-open_count-gt0.true)) in
    let is = cut_refused (past_of c.args.self.now) (sym c.if-is_worn_out.ensures) there in
    cuts (ap (handed_out c.args.self.now) (sym is)) (ap (after_cut c.args.self.now) (sym is))

pub returns-in-Ok-clause-cut : goal.returns-in-Ok-clause-cut
returns-in-Ok-clause-cut c =
    let s : Situation = situation_of (past_of (journal (opening_of c.self.inside.service.config c.self.inside.start) (all_lines c.self.inside.handed.items c.self.inside.entries.items) (rolled_of c.self.inside.rolled c.self.inside.service c.self.inside.start))) in
    let none : length s.open_tickets ≡ 0 = omega (arith, c.open_count.ensures _ _ c.self.invariant.0.situated, c.if-open_count-gt0.false) in
    let closed : is_some_open (situation_of (past_of c.args.self.now)).open_tickets ≡ false = ap (λ (h : History). is_some_open (situation_of (past_of h)).open_tickets) (sym c.self.view_is) ∙ none_open s.open_tickets none in
    let is = cut_there (past_of c.args.self.now) (sym c.if-is_worn_out.ensures) closed in
    let lines : c.entries.inside.entries.items ≡ held_lines c.args.self.now =
    all_held c.entries.inside.handed.items c.entries.inside.entries.items c.entries.inside.rolled c.entries.invariant.1 ∙ ap held_lines (c.entries.view_is ∙ c.replace.ensures.value) in
    cuts (ap Ok lines ∙ ap (handed_out c.args.self.now) (sym is)) (c.replace.ensures.after ∙ c.in-Ok.ensures.opened ∙ ap (after_cut c.args.self.now) (sym is))
