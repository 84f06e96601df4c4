use Rattle.http_seats.proofs.LockSeats.{all_dealt, all_sit}
use Rattle.http_seats.proofs.locks.SeatDeskSeatDesk.deal.Goals as goal

pub returns-clause-all : goal.returns-clause-all
returns-clause-all g c = all_dealt c.seats.result c.args.count c.seats.new.desk.seats c.seats.ensures.given c.seats.ensures.all

pub returns-clause-here : goal.returns-clause-here
returns-clause-here g c = all_sit c.seats.result c.seats.new.desk
