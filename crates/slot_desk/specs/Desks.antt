-- What contracts see of a desk, whose books are in slots.
use Rattle.std.specs.Prelude.{ℕ, ◌<◌, List, length, Option}
use Rattle.atomic_table.specs.Seated.{TableId}
use Rattle.service_profile.specs.Events.{History}

-- its services, by their names, by the tables that their books lie in, and by these books as they opened; and how many seats it has given
pub record DeskData : Type 0 where
  pub names : List (List ℕ)
  pub tables : List TableId
  pub origins : List (Option History)
  pub seats : ℕ

abbrev pub desk_of : List (List ℕ) → List TableId → List (Option History) → ℕ → DeskData
desk_of names tables origins seats = record { names = names; tables = tables; origins = origins; seats = seats }

-- the service at this place is one of the desk's
abbrev pub IsServiceOf : DeskData → ℕ → Type 0
IsServiceOf desk service = service < length desk.tables
