-- A desk may be shared by threads, and a seat may go to one of them.
use denote.Param.Send.{IsSend, IsSync, sendable}
use Rattle.std.proofs.Crossing.{crosses, frees}
use Rattle.book_slot.proofs.Showing.{slot_sync, slot_field_sync, place_send, place_field_send}
use Rattle.slot_desk.specs.contracts.desks.Desk as desk
use Rattle.slot_desk.specs.contracts.seats.Seat as seat

pub desk_sync : IsSync desk.the_row
desk_sync = search (sendable, crosses, frees, slot_sync, slot_field_sync) depth 40 fits 20000

pub desk_field_sync : IsSync (desk.the_field).row
desk_field_sync = search (sendable, crosses, frees, slot_sync, slot_field_sync) depth 40 fits 20000

pub seat_send : IsSend seat.the_row
seat_send = search (sendable, crosses, frees, place_send, place_field_send) depth 40 fits 20000

pub seat_field_send : IsSend (seat.the_field).row
seat_field_send = search (sendable, crosses, frees, place_send, place_field_send) depth 40 fits 20000
