-- What a seat is answered to a call at a service, and the seat after it.
use Rattle.std.specs.Prelude.{◌≡◌, ◌⊎◌, ℕ}
use Rattle.service_profile.specs.Calls.{CallData, CallAnswer, IsCalled}
use Rattle.book.specs.Counts.{made_by, IsFull, IsTurnedAway}
use Rattle.book_slot.specs.Called.{CalledAfterTries}
use Rattle.slot_desk.specs.Seats.{SeatData, ChangesAt}

-- a call of a seat of this number at a service, after as many failed tries as it took
abbrev pub IsCalledAt : ℕ → SeatData → CallData → CallAnswer → SeatData → Type 0
IsCalledAt service seat call answer after = ChangesAt service (made_by call answer) (CalledAfterTries (λ before later. IsCalled seat.number before call answer later)) seat after

-- the calls of a seat at a service as whoever asks it makes them. A seat whose count is full isn't let make an event, which may make an entry: the journal is said to be full, and nothing changes
abbrev pub IsAskedAt : ℕ → SeatData → CallData → CallAnswer → SeatData → Type 0
IsAskedAt service seat call answer after = (IsFull seat.count × IsTurnedAway call answer × (after ≡ seat)) ⊎ IsCalledAt service seat call answer after
