-- What a desk and its seats are made of may cross threads: a share of a ledger, also where only a `&` to it is shared, since that gives no step.
use Rattle.std.proofs.Common.{List, [], ◌∷◌, ℕ, zero, suc}
use base.Shift.{Keyless}
use denote.RattleType.{RattleType}
use denote.Param.Send.{IsSend, IsSync, part_keyless, sendable}
use Rattle.std.proofs.Crossing.{crosses}
use Rattle.desk.specs.contracts.desks.Desk as desk
use Rattle.desk.specs.contracts.desks.LockedService as service
use Rattle.desk.specs.contracts.kept.Kept as kept
use Rattle.desk.specs.contracts.seats.Seat as seat
use Rattle.desk.specs.contracts.tokens.Tokens as tokens
use Rattle.book.proofs.Sending.{book_field_send}
use Rattle.std.specs.Sync.Ledger.{chain, row, Rule, share_owns, book_owns}
use Rattle.std.specs.declared.sync.ledger.Ledger.{Ghosts}
use Rattle.desk.specs.declared.offered.Offered as offered
use Rattle.std.specs.contracts.sync.ledger.Share as share
use Rattle.std.specs.contracts.sync.ledger.Book as ledger

chain-Keyless : (xs : List (ℕ × ℕ)) (γ : ℕ) → Keyless (chain xs γ)
chain-Keyless [] γ = (tt, tt)
chain-Keyless (x ∷ xs) γ = λ c. (tt, (tt, (tt, chain-Keyless xs c.1)))

row_Keyless : (i : ℕ) (x : ℕ × ℕ) (γ : ℕ) → Keyless (row i x γ)
row_Keyless zero x γ = λ c. (tt, tt)
row_Keyless (suc i) x γ = λ c. (tt, row_Keyless i x c.1)

kept_keyless : (γ parts : ℕ) → Keyless (Rule γ parts)
kept_keyless γ parts = λ s. (chain-Keyless ((0, s.0) ∷ s.1) γ, λ _. tt)

share_keyless : (γ parts held amount : ℕ) → Keyless (share_owns γ parts held amount)
unfolding share_owns
share_keyless γ parts held amount = (kept_keyless γ parts, λ i. row_Keyless (suc i) (held, amount) γ)

book_keyless : (γ parts total : ℕ) → Keyless (book_owns γ parts total)
unfolding book_owns
book_keyless γ parts total = (kept_keyless γ parts, row_Keyless 0 (0, total) γ)

module _ (T : RattleType) (g : Ghosts T.Denot) where
  pub share_send : IsSend (share.the_row T g)
  share_send = record { owned = λ d vs. ((λ vss. (tt, ((λ uss. (tt, tt)), tt))), share_keyless g.name g.parts d.parts d.amount); leaving = λ k f vs. tt }

  pub share_sync : IsSync (share.the_row T g)
  share_sync = record { shared = λ d b o ν q. part_keyless (share.the_row T g) share_send q d b o }

  pub ledger_send : IsSend (ledger.the_row T g)
  ledger_send = record { owned = λ d vs. ((λ vss. (tt, ((λ uss. (tt, tt)), tt))), book_keyless g.name g.parts d.total); leaving = λ k f vs. tt }

  pub ledger_sync : IsSync (ledger.the_row T g)
  ledger_sync = record { shared = λ d b o ν q. part_keyless (ledger.the_row T g) ledger_send q d b o }

  pub tokens_sync : IsSend T → IsSync T → IsSync (tokens.the_field T g).row
  tokens_sync s y = search (sendable, crosses, ledger_sync, share_sync) depth 40 fits 20000

-- ---- the types of this crate

-- a desk may be shared, and a seat moved, by threads that share what names the ledgers
module _ (S T : RattleType) (g : Ghosts S.Denot) (h : Ghosts T.Denot) where
  pub seat_send : IsSend S → IsSend T → IsSend (seat.the_row S T g h)
  seat_send s t = search (sendable, crosses, share_send) depth 40 fits 20000

  pub seat_field_send : IsSend S → IsSend T → IsSend (seat.the_field S T g h).row
  seat_field_send s t = search (sendable, crosses, share_send) depth 40 fits 20000

module _ (S T : RattleType) (g : Ghosts S.Denot) (h : Ghosts T.Denot) (o : offered.Ghosts T.Denot) where
  pub kept_send : IsSend S → IsSend T → IsSend (kept.the_row S T g h o)
  kept_send s t = search (sendable, book_field_send, share_send) depth 40 fits 20000

  pub service_sync : IsSend S → IsSend T → IsSync (service.the_row S T g h o)
  service_sync s t = search (sendable, crosses, kept_send) depth 40 fits 20000

  pub desk_sync : IsSend S → IsSync S → IsSend T → IsSync T → IsSync (desk.the_row S T g h o)
  desk_sync s y t z = search (sendable, crosses, service_sync, tokens_sync, ledger_sync, share_sync) depth 40 fits 20000

  pub desk_field_sync : IsSend S → IsSync S → IsSend T → IsSync T → IsSync (desk.the_field S T g h o).row
  desk_field_sync s y t z = search (sendable, crosses, service_sync, tokens_sync, ledger_sync, share_sync) depth 40 fits 20000
