use mir.Syntax.{named}
use denote.Exit.{no}
use denote.Param.{param}
use denote.Param.Send.{IsSync, sendable, param_send, arg_send}
use Rattle.std.proofs.Crossing.{crosses}
use Rattle.http_seats.proofs.Sending.{answerer_send}
use Rattle.slot_desk.proofs.Showing.{desk_sync, seat_send}
use Rattle.http_seats.specs.contracts.slots.SeatDeskSeatDesk.TheImpl as impl
use Rattle.slot_desk.specs.contracts.desks.Desk as desk
use Rattle.slot_desk.specs.contracts.seats.Seat as seat
use Rattle.tests_server.specs.contracts.racing_workers.OvertakingGate as gate
use Rattle.tests_server.proofs.racing_slots.serve_both.Goals as goal

gate_sync : IsSync gate.the_row
gate_sync = search (sendable, crosses) depth 40

pub pool-requires-send-A : goal.pool-requires-send-A
pool-requires-send-A g c κs within = param_send 1 _ (arg_send _ no _ (answerer_send (record { mir = named 3; lft = κs.1.1.1.0 }) desk.the_row seat.the_row gate.the_row (param 0 g.row.R) impl.ghosts desk_sync seat_send gate_sync c.type_bounds.sync-R))
