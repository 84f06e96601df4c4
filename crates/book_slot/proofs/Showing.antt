-- A slot may be shared by threads, and a place may go to another one: a `&` to a seat of the table gives no step.
use denote.RattleType.{RattleType}
use denote.Param.Send.{IsSend, IsSync, Frees, sendable, part_keyless}
use denote.Struct.Struct.{Struct}
use denote.Struct.Owning.{shape}
use Rattle.std.specs.declared.alloc.Allocator.{Ghosts as Allocs}
use Rattle.atomic_table.specs.declared.shared.TableRule.{Ghosts}
use Rattle.atomic_table.specs.contracts.shared.Shared as shared
use Rattle.atomic_table.specs.contracts.send_lease.SendLease as lease
use Rattle.atomic_table.proofs.Rights.{right_send}
use Rattle.atomic_table.specs.contracts.shared.Seat as seat
use Rattle.atomic_table.proofs.Sent.{seat_keyless, shares_keyless}
use Rattle.std.proofs.Crossing.{crosses, frees}
use Rattle.book.proofs.Sending.{book_send}
use Rattle.book_slot.specs.contracts.slots.Slot as slot
use Rattle.book_slot.specs.contracts.slots.Place as place

seat_send : (S V : RattleType) → IsSend S → IsSend (seat.the_row S V)
seat_send S V s = record { owned = λ d vs. ((λ vss. (tt, ((λ uss. (tt, tt)), tt))), seat_keyless S s V.coded.code d.table_id d.id d.me); leaving = λ k f vs. tt }

seat_sync : (S V : RattleType) → IsSend S → IsSync (seat.the_row S V)
seat_sync S V s = record { shared = λ d b o ν q. part_keyless (seat.the_row S V) (seat_send S V s) q d b o }

-- the same of a table's parts, which its crate doesn't pass on
shared_sync : (S V K P : RattleType) (g : Ghosts P.Denot S.Denot V.Denot K.Denot) → IsSend S → IsSync (shared.the_row S V K P g)
shared_sync S V K P g s = let fields : IsSync (Struct (shape (shared.the_type S V K P g))) = search sendable depth 20 in
    record { shared = λ d b o ν. (fields.shared (d.words, (d.slots, (tt, tt))) b o ν, shares_keyless S s V.coded.code d.table_id (g.holds d.key) d.words d.slots ν) }

lease_sync : (T A : RattleType) (g : Allocs A.Denot) → IsSend A → Frees g g.dealloc_token → IsSync (lease.the_row T A g)
lease_sync T A g s f = record { shared = λ d b o ν q. part_keyless (lease.the_row T A g) (right_send T A g f) q d b o }

pub slot_sync : IsSync slot.the_row
slot_sync = search (sendable, crosses, frees, book_send, seat_sync, shared_sync, lease_sync) depth 40 fits 20000

pub slot_field_sync : IsSync (slot.the_field).row
slot_field_sync = search (sendable, crosses, frees, book_send, seat_sync, shared_sync, lease_sync) depth 40 fits 20000

pub place_send : IsSend place.the_row
place_send = search (sendable, crosses, frees, seat_send, book_send) depth 40 fits 20000

pub place_field_send : IsSend (place.the_field).row
place_field_send = search (sendable, crosses, frees, seat_send, book_send) depth 40 fits 20000
