use Rattle.std.proofs.Common.{◌∙◌, sym, arith}
use Rattle.std.proofs.lemmas.List.{length-map}
use Rattle.desk.specs.Services.{ServiceData}
use Rattle.http_seats.proofs.locks.SeatDeskSeatDesk.service_count.Goals as goal

pub returns-clause-count : goal.returns-clause-count
returns-clause-count g c = c.count.ensures ∙ sym (length-map c.args.desk.now.services (λ (service : ServiceData). service.name))

pub returns-clause-held : goal.returns-clause-held
returns-clause-held g c = λ place within. omega (arith, within, c.count.ensures)
