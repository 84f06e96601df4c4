-- What a seat is answered at the first try, or misses, and where two seats agree.
use Rattle.std.specs.Prelude.{◌≡◌, ℕ, slice_get, Some}
use Rattle.service_profile.specs.Calls.{CallData, CallAnswer, IsCalled}
use Rattle.book.specs.Counts.{made_by}
use Rattle.book_slot.specs.declared.view.View.{View}
use Rattle.book_slot.specs.Called.{Called}
use Rattle.book_slot.specs.Courses.{AreOfOne}
use Rattle.book_slot.specs.Trying.{missing}
use Rattle.slot_desk.specs.Seats.{SeatData, ChangesAt}

-- the same at the first try
abbrev pub IsTriedAt : ℕ → SeatData → CallData → CallAnswer → SeatData → Type 0
IsTriedAt service seat call answer after = ChangesAt service (made_by call answer) (Called (λ before later. IsCalled seat.number before call answer later)) seat after

-- a failed try: there is one miss more
abbrev pub IsMissedAt : ℕ → SeatData → SeatData → Type 0
IsMissedAt service seat after = ChangesAt service 0 (λ v w. w ≡ missing v) seat after

-- where both have seen the same opening of a service, what they have seen begins one good history
abbrev pub AgreeAt : ℕ → SeatData → SeatData → Type 0
AgreeAt service one other = (v w : View) × (slice_get one.views service ≡ Some v) × (slice_get other.views service ≡ Some w) × AreOfOne v.seen w.seen
