-- Workers with seats of a desk, and what becomes of them while they serve.
use Rattle.std.specs.Prelude.{ℕ, List, map, None}
use Rattle.service.specs.Asked.{RequestData, ResponseData}
use Rattle.service.specs.declared.upkeep.Upkeep.{Upkeep}
use Rattle.service_profile.specs.Events.{History}
use Rattle.http_seats.specs.Seated.{SeatedData, seated, names_by, asks_by}
use Rattle.http_pool.specs.declared.workers.Worker.{Worker}
use Rattle.http_pool.specs.Workers.{HaveWorked}

-- workers with these answerers, each with this clock
abbrev pub workers_of : {S C : Type 0} → C → List S → List (Worker S C)
workers_of clock answerers = map (λ answerer. record { answerer = answerer; clock = clock; failure = None }) answerers

-- the seats that workers have
abbrev pub seats_with : {D S C : Type 0} → List (Worker (SeatedData D S) C) → List S
seats_with workers = map (λ worker. worker.answerer.seat) workers

-- so many workers sat down at a desk, each with a copy of the clock, and served connections, side by side, each by its seat, for services that do this for their upkeep; and the desk was closed with the seats that they brought back. What that means for each kind of desk its parameters say
pub record HasServedAt {D S C : Type 0} (names_of : D → List (List ℕ)) (asks : D → S → Upkeep → ℕ → ℕ → RequestData → ResponseData → S → Type 0) (deals : D → ℕ → D → List S → Type 0) (closes : D → List S → List History → List ℕ → Type 0)
    (ticks : C → ℕ → C → Type 0) (desk : D) (upkeeps : List Upkeep) (count : ℕ) (clock : C) (books : List History) (counts : List ℕ) : Type 0 where
  pub dealt : D
  pub seats : List S
  pub later : List (Worker (SeatedData D S) C)
  pub sat : deals desk count dealt seats
  pub worked : HaveWorked (names_by names_of) (asks_by asks) ticks (workers_of clock (map (seated dealt upkeeps) seats)) later
  pub closed : closes dealt (seats_with later) books counts
