use Rattle.std.proofs.Common.{◌≡◌, ◌∙◌, Ok, Err, ap, sym}
use Rattle.service_profile.specs.declared.standings.Standing.{Standing}
use Rattle.service_profile.specs.Events.{releases}
use Rattle.book.specs.Effects.{planned, refused_plan, released_plan}
use Rattle.book.specs.Finding.{ticket_in}
use Rattle.book.proofs.Planned.{released_so}
use Rattle.book.proofs.machine.released.Goals as goal

pub returns-in-Ok : goal.returns-in-Ok
returns-in-Ok c = λ moment held s stands.
    let is : Ok c.in-Ok.field-0 ≡ ticket_in s c.args.ticket = sym c.in-Ok.is ∙ c.ticket.ensures held s stands in
    c.ended.ensures ∙ ap (λ (n : Standing). released_plan n c.args.ticket) (c.standing-standing.ensures.stands held s stands)
    ∙ ap (planned s.config moment (releases c.args.ticket)) (sym (released_so s c.args.ticket _ is))

pub returns-in-Err : goal.returns-in-Err
returns-in-Err c = λ moment held s stands.
    let is : Err c.in-Err.number ≡ ticket_in s c.args.ticket = sym c.in-Err.is ∙ c.ticket.ensures held s stands in
    c.refused.ensures ∙ ap (λ (n : Standing). refused_plan n c.in-Err.number) (c.standing-standing.ensures.stands held s stands)
    ∙ ap (planned s.config moment (releases c.args.ticket)) (sym (released_so s c.args.ticket _ is))
