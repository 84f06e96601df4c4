-- An answerer with a seat may cross threads, where its seat may, and its desk, its gate and what it waits by may be shared.
use denote.Ref.{NamedLft}
use denote.RattleType.{RattleType}
use denote.Param.Send.{IsSend, IsSync, sendable}
use Rattle.std.proofs.Crossing.{crosses}
use Rattle.service.specs.contracts.gate.OpenGate as gate
use Rattle.http_seats.specs.declared.seats.DeskSeat.{Ghosts}
use Rattle.http_seats.specs.contracts.seated.SeatedAnswerer as answerer

module _ (κ : NamedLft) (D S G R : RattleType) (g : Ghosts S.Denot D.Denot) where
  pub answerer_send : IsSync D → IsSend S → IsSync G → IsSync R → IsSend (answerer.the_row κ D S G R g)
  answerer_send d s a b = search (sendable, crosses) depth 40 fits 20000

pub gate_sync : IsSync gate.the_row
gate_sync = search sendable depth 40
