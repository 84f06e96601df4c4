use denote.RattleType.{RattleType}
use denote.Ref.{NamedLft}
use denote.Param.Send.{IsSend, IsSync, sendable, param_send}
use Rattle.std.proofs.Crossing.{crosses}
use Rattle.std.specs.declared.sync.ledger.Ledger.{Ghosts}
use Rattle.desk.specs.declared.offered.Offered as offered
use Rattle.tests_service.specs.contracts.desk_fixtures.Caller as caller
use Rattle.desk.proofs.Showing.{seat_field_send, desk_sync}
use Rattle.tests_service.proofs.threads.work_at_once.Lts as Lts
use Rattle.tests_service.proofs.threads.work_at_once.Goals as goal

-- a caller may go to another thread
module _ (a : NamedLft) (S T : RattleType) (g : Ghosts S.Denot) (h : Ghosts T.Denot) (o : offered.Ghosts T.Denot) where
  caller_send : IsSend S → IsSync S → IsSend T → IsSync T → IsSend (caller.the_row a S T g h o)
  caller_send s y t z = search (sendable, crosses, seat_field_send, desk_sync) depth 40 fits 20000

pub map_vec-requires-send-J : goal.map_vec-requires-send-J
map_vec-requires-send-J g c κs within =
    param_send 1 (Lts.arg-8-1 g.row.L g.row.M g.row.R g.L.laws g.M.laws g.R.laws g.L.Ledger g.L.Ledger-dict g.M.Ledger g.M.Ledger-dict g.M.Offered g.M.Offered-dict g.R.Threads g.R.Threads-dict g.R.Wait g.R.Wait-dict g.R.Abort g.R.Abort-dict κs) (search (sendable, crosses, caller_send) depth 40 fits 20000)
