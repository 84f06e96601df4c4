-- What a new seat knows.
use Rattle.std.specs.Prelude.{ℕ, List, map, Option}
use Rattle.atomic_table.specs.Seated.{TableId}
use Rattle.service_profile.specs.Events.{History}
use Rattle.book_slot.specs.declared.view.View.{View}
use Rattle.book_slot.specs.Trying.{newcomer}
use Rattle.slot_desk.specs.Seats.{SeatData, seat_of}

-- a new view of this number, of a book that opened so
abbrev pub newcomer_of : ℕ → Option History → View
newcomer_of number origin = newcomer origin number

-- a seat of this number that has made no calls, of services whose books lie in these tables and opened so
abbrev pub new_seat : ℕ → List TableId → List (Option History) → SeatData
new_seat number tables origins = seat_of number 0 tables (map (newcomer_of number) origins)
