-- What contracts see of a seat, which has a place at each service of its desk.
use Rattle.std.specs.Prelude.{◌≡◌, ℕ, ◌+◌, List, [], ◌∷◌, length, slice_get, slice_set, Some}
use Rattle.atomic_table.specs.Seated.{TableId}
use Rattle.book_slot.specs.declared.view.View.{View}
use Rattle.slot_desk.specs.Desks.{DeskData}

-- its number, how many entries its calls have made, and of each service the table of the book and what the seat knows of it
pub record SeatData : Type 0 where
  pub number : ℕ
  pub count : ℕ
  pub tables : List TableId
  pub views : List View

abbrev pub seat_of : ℕ → ℕ → List TableId → List View → SeatData
seat_of number count tables views = record { number = number; count = count; tables = tables; views = views }

-- how many entries a seat with these views has made
abbrev pub entries_in : List View → ℕ
entries_in [] = 0
entries_in (v ∷ views) = v.entries + entries_in views

-- its count is the number of the entries that it has made at all its services, and of each of them it has a view
pub record IsTallied (seat : SeatData) : Type 0 where
  pub counted : seat.count ≡ entries_in seat.views
  pub each_viewed : length seat.views ≡ length seat.tables

-- the seat is one of the desk's
abbrev pub IsSeatOf : DeskData → SeatData → Type 0
IsSeatOf desk seat = seat.tables ≡ desk.tables

-- the seat after a call at a service that left it this view there, and made so many entries
abbrev pub seat_with : SeatData → ℕ → View → ℕ → SeatData
seat_with seat service view made = seat_of seat.number (seat.count + made) seat.tables (slice_set seat.views service view)

-- only what the seat knows of one service changed, and so; and it counts so many entries more
abbrev pub ChangesAt : ℕ → ℕ → (View → View → Type 0) → SeatData → SeatData → Type 0
ChangesAt service made P seat after = (v w : View) × (slice_get seat.views service ≡ Some v) × P v w × (after ≡ seat_with seat service w made)
