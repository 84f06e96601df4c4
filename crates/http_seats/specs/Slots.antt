-- Seats of a desk whose books lie in slots.
use Rattle.std.specs.Prelude.{◌≡◌, ℕ, zero, suc, List, [], ◌∷◌, map, length, Option}
use Rattle.atomic_table.specs.Seated.{TableId}
use Rattle.service.specs.Asked.{RequestData, ResponseData}
use Rattle.service.specs.Asking.{IsServedBy}
use Rattle.service.specs.Upkept.{IsUpkept}
use Rattle.service.specs.declared.upkeep.Upkeep.{Upkeep}
use Rattle.service_profile.specs.Events.{History}
use Rattle.slot_desk.specs.Calls as seats
use Rattle.slot_desk.specs.Closing.{AreOf, HaveCourses, NumbersAgree}
use Rattle.slot_desk.specs.Desks.{DeskData}
use Rattle.slot_desk.specs.Seats.{SeatData}
use Rattle.slot_desk.specs.Sitting.{new_seat}

-- the names of the desk's services
abbrev pub names_at : DeskData → List (List ℕ)
names_at desk = desk.names

-- the calls that a request stands for, and those of the service's own upkeep, are those of the seat at the service of this place
abbrev pub asks : DeskData → SeatData → Upkeep → ℕ → ℕ → RequestData → ResponseData → SeatData → Type 0
asks desk old upkeep place moment wanted given new = IsServedBy (IsUpkept upkeep (seats.IsAskedAt place)) old moment wanted given new

-- so many seats at books that lie in these tables and opened so, from this number on, that have made no call
abbrev pub seats_of : List TableId → List (Option History) → ℕ → ℕ → List SeatData
seats_of tables origins number zero = []
seats_of tables origins number (suc count) = new_seat number tables origins ∷ seats_of tables origins (suc number) count

abbrev pub dealt : DeskData → ℕ
dealt desk = desk.seats

-- the first seats of the desk, whose services and books stay
abbrev pub deals : DeskData → ℕ → DeskData → List SeatData → Type 0
deals old count new seats =
    (new.names ≡ old.names) × (new.tables ≡ old.tables) × (new.origins ≡ old.origins) × (seats ≡ seats_of new.tables new.origins 1 count)

-- how many entries each of these seats counts
abbrev pub counts_of : List SeatData → List ℕ
counts_of seats = map (λ seat. seat.count) seats

-- a desk was closed with these seats, and handed out these books, in the order of the services: each has a legal and sound history, of the book that its service opened with, or with one that came of it by cuts; and of each service there is one such history of each opening, the last one that of its book, and all that any of the seats has seen of the service begins the history of its opening. Nobody but these seats has changed the books: each history of an opening, and each that one of them found, is the first or was made by one of them; the entries of a number were made by the seat of that number; and of each service, as of all, there are as many entries as they have made
pub record AreClosed (desk : DeskData) (books : List History) (seats : List SeatData) : Type 0 where
  pub all_books : length books ≡ length desk.tables
  pub good : AreOf desk.origins books
  pub begun : HaveCourses desk.origins books seats
  pub agree : NumbersAgree desk.origins books seats

abbrev pub closes : DeskData → List SeatData → List History → List ℕ → Type 0
closes desk seats books counts = AreClosed desk books seats × (counts ≡ counts_of seats)
