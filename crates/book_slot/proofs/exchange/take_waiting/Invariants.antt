use Rattle.std.proofs.Common.{◌≡◌, ℕ, []}
use Rattle.book_slot.specs.Views.{missed}
use Rattle.book_slot.proofs.exchange.take_waiting.Given as goal

abbrev pub invariant-loop : goal.invariant-loop
invariant-loop g l = (l.seat.table_id ≡ l.initial.seat.table_id) × (l.seat.me.1 ≡ []) × ((tries : ℕ) × (l.seat.me.0 ≡ missed tries l.initial.seat.me.0))
