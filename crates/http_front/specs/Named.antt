-- Services under their names, and what is answered by one of them.
use Rattle.std.specs.Prelude.{◌≡◌, ℕ, List, Some, map, slice_get, slice_set, string_bytes}
use Rattle.service_profile.specs.Calls.{IsCalled}
use Rattle.service_profile.specs.Events.{History}
use Rattle.service.specs.Asked.{RequestData, ResponseData}
use Rattle.service.specs.Asking.{IsServedBy}
use Rattle.service.specs.Upkept.{IsUpkept}
use Rattle.http_front.specs.declared.books.NamedBook.{NamedBook}

-- their names
abbrev pub names_in : List NamedBook → List (List ℕ)
names_in services = map (λ service. string_bytes service.name) services

-- the service at this place was asked, for seat 1, and did what it does for its upkeep; the others stay as they are
abbrev pub IsAskedOf : List NamedBook → ℕ → ℕ → RequestData → ResponseData → List NamedBook → Type 0
IsAskedOf services place moment wanted response after =
    (service : NamedBook) × (next : History)
    × (slice_get services place ≡ Some service)
    × IsServedBy (IsUpkept service.upkeep (IsCalled 1)) service.book moment wanted response next
    × (after ≡ slice_set services place (record service { book = next }))
