-- A log may be shared by threads that share what its lines are written by.
use denote.Ref.{NamedLft}
use denote.RattleType.{RattleType}
use denote.Param.Send.{IsSend, IsSync, sendable}
use Rattle.std.proofs.Crossing.{crosses}
use Rattle.service_log.specs.contracts.service_log.Logged as logged
use Rattle.service_log.specs.contracts.service_log.ServiceLog as log
use Rattle.service_log.specs.contracts.service_log.Shown as shown

shown_send : IsSend shown.the_row
shown_send = search (sendable, crosses) depth 40 fits 20000

logged_sync : IsSync logged.the_row
logged_sync = search (sendable, crosses, shown_send) depth 40 fits 20000

module _ (κ : NamedLft) (R L : RattleType) where
  pub log_sync : IsSync R → IsSync L → IsSync (log.the_row κ R L)
  log_sync r l = search (sendable, crosses, logged_sync) depth 40 fits 20000
