-- A list that only proofs read may cross threads where its items may: it holds nothing.
use denote.RattleType.{RattleType}
use denote.Param.Send.{IsSend, owning_send, sendable}
use Rattle.ghost_list.specs.contracts.list.GhostList.{the_row, the_type}

pub pieces_send : (A : RattleType) → IsSend A → IsSend (the_row A)
pieces_send A a = owning_send (the_type A) (search sendable, tt) (λ d. tt) (λ k x w. tt)
