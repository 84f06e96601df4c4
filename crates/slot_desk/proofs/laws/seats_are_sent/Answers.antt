use denote.Param.Send.{sendable}
use Rattle.std.proofs.Crossing.{crosses, frees}
use Rattle.slot_desk.proofs.Showing.{desk_sync, desk_field_sync, seat_send, seat_field_send}
use Rattle.slot_desk.proofs.laws.seats_are_sent.Goals as goal

pub sent-requires-send-T : goal.sent-requires-send-T
sent-requires-send-T c κs = search (sendable, crosses, frees, desk_sync, desk_field_sync, seat_send, seat_field_send) depth 40 fits 20000
