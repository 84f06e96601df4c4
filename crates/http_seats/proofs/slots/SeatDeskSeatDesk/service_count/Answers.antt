use Rattle.std.proofs.Common.{arith}
use Rattle.http_seats.proofs.slots.SeatDeskSeatDesk.service_count.Goals as goal

pub returns-clause-held : goal.returns-clause-held
returns-clause-held c = λ place within. omega (arith, within, c.count.ensures.tables)
