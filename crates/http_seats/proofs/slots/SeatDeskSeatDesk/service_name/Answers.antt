use Rattle.std.proofs.Common.{◌<◌, length, subst, sym, ap, ◌∙◌}
use Rattle.std.specs.List.{slice_get}
use Rattle.http_seats.proofs.slots.SeatDeskSeatDesk.service_name.Goals as goal

pub name-requires : goal.name-requires
name-requires c = record { within = subst (λ place. place < length c.args.desk.now.names) (sym c.at.ensures) c.requires.within }

pub returns : goal.returns
returns c = ap (λ place. slice_get c.args.desk.now.names place) (sym c.at.ensures) ∙ c.name.ensures
