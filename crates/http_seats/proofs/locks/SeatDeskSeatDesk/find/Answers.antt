use Rattle.std.proofs.Common.{◌∙◌, sym}
use Rattle.std.specs.Prelude.{bytes_eq}
use Rattle.desk.specs.Services.{ServiceData}
use Rattle.http_front.proofs.Services.{position_map}
use Rattle.http_seats.proofs.locks.SeatDeskSeatDesk.find.Goals as goal

pub returns-clause-found : goal.returns-clause-found
returns-clause-found g c = c.place_of.ensures.found ∙ sym (position_map (λ (service : ServiceData). service.name) (λ other. bytes_eq other c.args.service.now) c.args.desk.now.services)
