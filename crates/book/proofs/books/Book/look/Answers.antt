use Rattle.std.proofs.Common.{◌≡◌, Ok, Err, ap, sym, ◌∙◌, subst}
use Rattle.std.specs.Arc.{arc_value}
use Rattle.service_profile.specs.Answers.{IsLooked, looks, looked, map_ok}
use Rattle.service_profile.specs.Events.{History}
use Rattle.service_profile.specs.Histories.{past_of, situation_of}
use Rattle.book.specs.Books.{rolled_of, opening_of, journal, all_lines}
use Rattle.book.proofs.Openings.{looked_there}
use Rattle.book.proofs.books.Book.look.Goals as goal

pub returns-in-Ok-clause-looked : goal.returns-in-Ok-clause-looked
returns-in-Ok-clause-looked c =
    let history : History = journal (opening_of c.self.inside.service.config c.self.inside.start) (all_lines c.self.inside.handed.items c.self.inside.entries.items) (rolled_of c.self.inside.rolled c.self.inside.service c.self.inside.start) in
    let found : looked (situation_of (past_of history)) c.args.ticket ≡ Ok (arc_value c.in-Ok.program.now) = sym (c.look.ensures _ _ c.self.invariant.0.situated) ∙ ap (map_ok (λ p. arc_value p.now)) c.in-Ok.is in
    subst (λ (h : History). IsLooked h c.args.ticket (map_ok arc_value c.owner_of.result)) c.self.view_is (looked_there history c.args.ticket _ _ found c.owner_of.ensures)

pub returns-in-Err-clause-looked : goal.returns-in-Err-clause-looked
returns-in-Err-clause-looked c =
    let history : History = journal (opening_of c.self.inside.service.config c.self.inside.start) (all_lines c.self.inside.handed.items c.self.inside.entries.items) (rolled_of c.self.inside.rolled c.self.inside.service c.self.inside.start) in
    let lost : looked (situation_of (past_of history)) c.args.ticket ≡ Err c.in-Err.number = sym (c.look.ensures _ _ c.self.invariant.0.situated) ∙ ap (map_ok (λ p. arc_value p.now)) c.in-Err.is in
    subst (λ (h : History). IsLooked h c.args.ticket (Err c.in-Err.number)) c.self.view_is (looks (sym lost))
