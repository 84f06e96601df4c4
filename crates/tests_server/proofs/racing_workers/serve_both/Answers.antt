use mir.Syntax.{named}
use denote.Exit.{no}
use denote.Param.{param}
use denote.Param.Send.{IsSync, sendable, param_send, arg_send}
use Rattle.std.proofs.Crossing.{crosses}
use Rattle.http_seats.proofs.Sending.{answerer_send}
use Rattle.desk.proofs.Showing.{desk_sync, seat_send}
use Rattle.desk.specs.contracts.desks.Desk as desk
use Rattle.desk.specs.contracts.seats.Seat as seat
use Rattle.http_seats.specs.contracts.locks.SeatDeskSeatDesk.TheImpl as impl
use Rattle.tests_server.specs.contracts.racing_workers.OvertakingGate as gate
use Rattle.tests_server.proofs.racing_workers.serve_both.Goals as goal

gate_sync : IsSync gate.the_row
gate_sync = search (sendable, crosses) depth 40

pub pool-requires-send-A : goal.pool-requires-send-A
pool-requires-send-A g c κs within =
    let desk_row = desk.the_row (param 0 g.row.L) (param 1 g.row.M) g.L.Ledger g.M.Ledger g.M.Offered in
    let seat_row = seat.the_row (param 0 g.row.L) (param 1 g.row.M) g.L.Ledger g.M.Ledger in
    let ghosts = impl.ghosts (param 0 g.row.L) (param 1 g.row.M) g.L.Ledger impl.no_dict g.M.Ledger impl.no_dict g.M.Offered impl.no_dict in
    let shared = desk_sync (param 0 g.row.L) (param 1 g.row.M) g.L.Ledger g.M.Ledger g.M.Offered c.type_bounds.send-L c.type_bounds.sync-L c.type_bounds.send-M c.type_bounds.sync-M in
    let sent = seat_send (param 0 g.row.L) (param 1 g.row.M) g.L.Ledger g.M.Ledger c.type_bounds.send-L c.type_bounds.send-M in
    param_send 1 _ (arg_send _ no _ (answerer_send (record { mir = named 5; lft = κs.1.1.1.1.1.0 }) desk_row seat_row gate.the_row (param 2 g.row.R) ghosts shared sent gate_sync c.type_bounds.sync-R))
