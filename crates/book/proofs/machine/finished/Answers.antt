use Rattle.std.proofs.Common.{◌≡◌, ◌+◌, ◌≤◌, ◌∙◌, Some, Ok, Err, ap, sym}
use Rattle.service_profile.specs.declared.standings.Standing.{Standing}
use Rattle.service_profile.specs.declared.tickets.OpenTicket.{OpenTicket}
use Rattle.service_profile.specs.Events.{finishes}
use Rattle.service_profile.specs.Machine.{meant, finished_under}
use Rattle.book.specs.Effects.{planned, refused_plan}
use Rattle.book.specs.Finding.{ticket_in}
use Rattle.book.proofs.Finds.{needed}
use Rattle.book.proofs.Planned.{finished_so, found_number, is_open_ticket}
use Rattle.book.proofs.Versions.{found_keeps}
use Rattle.book.proofs.machine.finished.Goals as goal

pub returns-in-Ok : goal.returns-in-Ok
returns-in-Ok c = λ held s stands before.
    let is : Ok c.in-Ok.open ≡ ticket_in s c.args.ticket = sym c.in-Ok.is ∙ c.ticket.ensures held s stands in
    let found = is_open_ticket s c.args.ticket c.in-Ok.open is in
    let held_ = found_keeps (λ (ticket : OpenTicket). s.first_version + s.dropped ≤ ticket.version) s.open_tickets c.args.ticket c.in-Ok.open (needed c.args.found.now held s stands) found in
    c.finished_under.ensures held s stands before held_
    ∙ ap (λ number. planned s.config c.args.moment (finishes c.args.judged.now number) (finished_under meant s c.args.moment c.args.judged.now (Some c.in-Ok.open))) (found_number s.open_tickets c.args.ticket c.in-Ok.open found)
    ∙ ap (planned s.config c.args.moment (finishes c.args.judged.now c.args.ticket)) (sym (finished_so s c.args.moment c.args.judged.now c.args.ticket _ is))

pub returns-in-Err : goal.returns-in-Err
returns-in-Err c = λ held s stands before.
    let is : Err c.in-Err.number ≡ ticket_in s c.args.ticket = sym c.in-Err.is ∙ c.ticket.ensures held s stands in
    c.refused.ensures ∙ ap (λ (n : Standing). refused_plan n c.in-Err.number) (c.standing.ensures.stands held s stands)
    ∙ ap (planned s.config c.args.moment (finishes c.args.judged.now c.args.ticket)) (sym (finished_so s c.args.moment c.args.judged.now c.args.ticket _ is))
