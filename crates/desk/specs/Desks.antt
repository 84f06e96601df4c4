-- What contracts see of a desk, whose books are behind locks.
use Rattle.std.specs.Prelude.{ℕ, ◌<◌, List, length}
use Rattle.desk.specs.Services.{ServiceData}

-- the services that it has opened, and how many seats it has given
pub record DeskData : Type 0 where
  pub services : List ServiceData
  pub seats : ℕ

abbrev pub desk_of : List ServiceData → ℕ → DeskData
desk_of services seats = record { services = services; seats = seats }

-- the service at this place is one of the desk's
abbrev pub IsServiceOf : DeskData → ℕ → Type 0
IsServiceOf desk service = service < length desk.services
