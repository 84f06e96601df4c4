-- Seats of a desk whose books lie behind locks.
use Rattle.std.specs.Prelude.{◌≡◌, ℕ, zero, suc, List, [], ◌∷◌, map, length, sum, ⊤}
use Rattle.std.specs.List.{AllByRecursion}
use Rattle.service.specs.Asked.{RequestData, ResponseData}
use Rattle.service.specs.Asking.{IsServedBy}
use Rattle.service.specs.Upkept.{IsUpkept}
use Rattle.service.specs.declared.upkeep.Upkeep.{Upkeep}
use Rattle.service_profile.specs.Events.{History}
use Rattle.book.specs.Good.{IsGood}
use Rattle.desk.specs.Calls.{IsCalledAt}
use Rattle.desk.specs.Desks.{DeskData}
use Rattle.desk.specs.Kept.{AreOfSome, last_number}
use Rattle.desk.specs.Seats.{SeatData, seat_of}
use Rattle.desk.specs.Services.{ServiceData}

-- the names of the desk's services
abbrev pub names_at : DeskData → List (List ℕ)
names_at desk = map (λ service. service.name) desk.services

-- whose a seat is its type says, which names the desk's ledgers
abbrev pub sits_at : DeskData → SeatData → Type 0
sits_at desk seat = ⊤

-- the calls that a request stands for, and those of the service's own upkeep, are those of the seat
abbrev pub asks : DeskData → SeatData → Upkeep → ℕ → ℕ → RequestData → ResponseData → SeatData → Type 0
asks desk old upkeep place moment wanted given new = IsServedBy (IsUpkept upkeep (IsCalledAt desk.services)) old moment wanted given new

-- so many seats, from this number on, that have made no call
abbrev pub seats_of : ℕ → ℕ → List SeatData
seats_of number zero = []
seats_of number (suc count) = seat_of number 0 0 ∷ seats_of (suc number) count

abbrev pub dealt : DeskData → ℕ
dealt desk = desk.seats

-- the first seats of the desk, whose services stay
abbrev pub deals : DeskData → ℕ → DeskData → List SeatData → Type 0
deals old count new seats = (new.services ≡ old.services) × (seats ≡ seats_of 1 count)

-- how many entries each of these seats counts
abbrev pub counts_of : List SeatData → List ℕ
counts_of seats = map (λ seat. seat.count) seats

-- a desk with these services was closed with these seats. It handed out these books: each has a legal and sound history, of one of the services, after so many cuts; the numbers of their last entries add up to the entries that the seats count, and their cuts to the cuts that the seats count
pub record AreClosed (services : List ServiceData) (books : List History) (seats : List SeatData) : Type 0 where
  pub all_books : length books ≡ length services
  pub good : AllByRecursion IsGood books
  pub entries_agree : sum (map last_number books) ≡ sum (counts_of seats)
  pub cuts_agree : (cuts : List ℕ) × AreOfSome services cuts books × (sum cuts ≡ sum (map (λ seat. seat.cuts) seats))

abbrev pub closes : DeskData → List SeatData → List History → List ℕ → Type 0
closes desk seats books counts = AreClosed desk.services books seats × (counts ≡ counts_of seats)
