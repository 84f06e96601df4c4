use Rattle.std.proofs.Common.{Option, sym, subst}
use Rattle.std.proofs.lemmas.Result.{on_ok_weaker}
use Rattle.service_profile.specs.declared.tickets.OpenTicket.{OpenTicket}
use Rattle.book.specs.Following.{changed_by}
use Rattle.book.specs.Situations.{StandsFor}
use Rattle.book.proofs.parts.Parts.change.Goals as goal

pub returns-in-Some-clause-stands : goal.returns-in-Some-clause-stands
returns-in-Some-clause-stands c =
    on_ok_weaker c.admit.result (λ f held s stands orderly changes.
    subst (λ (o : Option OpenTicket). StandsFor c.admit.new.self held (changed_by o s c.args.next c.args.effects)) (sym c.in-Some.is)
    (f held s stands orderly changes.later (changes.issue c.in-Some.ticket c.in-Some.is).3)) c.admit.ensures.stands

pub returns-in-None-clause-stands : goal.returns-in-None-clause-stands
returns-in-None-clause-stands c = λ held s stands orderly changes.
    subst (λ (o : Option OpenTicket). StandsFor c.settle.new.self held (changed_by o s c.args.next c.args.effects)) (sym c.in-None.is) (c.settle.ensures.stands held s stands orderly changes)
