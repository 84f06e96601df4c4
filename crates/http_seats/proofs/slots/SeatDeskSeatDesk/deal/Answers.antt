use Rattle.http_seats.proofs.SlotSeats.{all_dealt, all_sit}
use Rattle.http_seats.proofs.slots.SeatDeskSeatDesk.deal.Goals as goal

pub returns-clause-all : goal.returns-clause-all
returns-clause-all c = all_dealt c.seats.result c.seats.new.desk c.args.count c.seats.ensures.given c.seats.ensures.all

pub returns-clause-here : goal.returns-clause-here
returns-clause-here c = all_sit c.seats.result c.seats.new.desk c.args.count c.seats.ensures.given
