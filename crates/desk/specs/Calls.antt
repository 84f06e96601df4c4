-- What a seat is answered to a call, and the seat after it: a service behind a lock is called in one hold of the lock, and may be called by others before and after, so each answer is the documented machine's after some legal history of one of the desk's services.
use Rattle.std.specs.Prelude.{◌≡◌, ◌⊎◌, List}
use Rattle.book.specs.Counts.{IsFull, IsTurnedAway}
use Rattle.service_profile.specs.Calls.{CallData, CallAnswer, applies, cuts, replies, hands}
use Rattle.desk.specs.AfterSome.{IsCalledAfter}
use Rattle.desk.specs.Seats.{SeatData, after_call, after_cut}
use Rattle.desk.specs.Services.{ServiceData}

-- the seat after a call: it counts an entry, and a cut that handed out entries
abbrev pub seat_after : SeatData → CallData → CallAnswer → SeatData
seat_after seat (applies moment event) (replies r) = after_call seat r
seat_after seat cuts (hands found) = after_cut seat found
seat_after seat call other = seat

-- a seat whose count is full isn't let make an event, which may make an entry: the journal is said to be full, and nothing changes
abbrev pub IsCalledAt : List ServiceData → SeatData → CallData → CallAnswer → SeatData → Type 0
IsCalledAt services seat call answer after =
    (IsFull seat.count × IsTurnedAway call answer × (after ≡ seat))
    ⊎ (IsCalledAfter services seat.number call answer × (after ≡ seat_after seat call answer))
