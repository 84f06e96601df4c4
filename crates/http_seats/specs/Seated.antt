-- What contracts see of an answerer with a seat at a desk, and what it answers.
use Rattle.std.specs.Prelude.{◌≡◌, ℕ, List}
use Rattle.service.specs.Asked.{RequestData, ResponseData}
use Rattle.service.specs.Upkept.{upkeep_at}
use Rattle.service.specs.declared.upkeep.Upkeep.{Upkeep}

-- the desk, what its services do for their own upkeep, in their order, and the seat
pub record SeatedData (D S : Type 0) : Type 0 where
  pub desk : D
  pub upkeeps : List Upkeep
  pub seat : S

abbrev pub seated : {D S : Type 0} → D → List Upkeep → S → SeatedData D S
seated desk upkeeps seat = record { desk = desk; upkeeps = upkeeps; seat = seat }

-- the names of the desk's services
abbrev pub names_by : {D S : Type 0} → (D → List (List ℕ)) → SeatedData D S → List (List ℕ)
names_by names_of answerer = names_of answerer.desk

-- a service of the desk stands there
abbrev pub has_by : {D S : Type 0} → (D → ℕ → Type 0) → SeatedData D S → ℕ → Type 0
has_by has answerer place = has answerer.desk place

-- a request is answered as the seat is answered, and the desk and the upkeep of its services are the same
abbrev pub asks_by : {D S : Type 0} → (D → S → Upkeep → ℕ → ℕ → RequestData → ResponseData → S → Type 0) → SeatedData D S → ℕ → ℕ → RequestData → ResponseData → SeatedData D S → Type 0
asks_by asks old place moment wanted given new =
    (new.desk ≡ old.desk) × (new.upkeeps ≡ old.upkeeps) × asks old.desk old.seat (upkeep_at old.upkeeps place) place moment wanted given new.seat
