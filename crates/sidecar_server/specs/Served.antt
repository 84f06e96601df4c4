-- What becomes of services that are served by one worker, or by many.
use Rattle.std.specs.Prelude.{◌≡◌, ◌<◌, ◌⊎◌, ℕ, List, [], map, String}
use Rattle.std.specs.Global.{Global}
use Rattle.service_profile.specs.declared.configuration.Config.{Config}
use Rattle.verifier.specs.declared.verified.Verified.{Verified}
use Rattle.service_profile.specs.Events.{History}
use Rattle.desk.specs.Desks.{DeskData}
use Rattle.desk.specs.Seats.{SeatData}
use Rattle.desk.specs.Services.{ServiceData, service_from}
use Rattle.http_seats.specs.Locks.{AreClosed, asks, counts_of, names_at, seats_of}
use Rattle.http_seats.specs.Seated.{SeatedData, seated, names_by, asks_by}
use Rattle.http_front.specs.declared.books.Books.{Books}
use Rattle.http_front.specs.declared.books.NamedBook.{NamedBook}
use Rattle.http_front.specs.Named.{names_in, IsAskedOf}
use Rattle.http_pool.specs.Connections.{HasServed}
use Rattle.http_pool.specs.declared.workers.Worker.{Worker}
use Rattle.http_pool.specs.Workers.{HaveWorked}
use Rattle.service_file.specs.declared.settings.ServiceSettings.{ServiceSettings}
use Rattle.service_file.specs.declared.settings.Settings.{Settings}
use Rattle.service_file.specs.declared.keepers.Keeper.TheVariants as keeper
use Rattle.service_file.specs.declared.logging.Logging.TheVariants as logging
use Rattle.sidecar_server.specs.Numbering.{IsFirstTicket}
use Rattle.sidecar_server.specs.Opened.{AreOpened, upkeeps_of}
use Rattle.sidecar_server.specs.Seats.{workers_of, seats_with}
use Rattle.sidecar_server.specs.Slotted.{HasServedAtSlots}

-- the books of services, in their order
abbrev pub books_of : List NamedBook → List History
books_of services = map (λ service. service.book) services

-- one worker, who has the books to itself: the services opened, each with this number of its first ticket, and connections were served from there on, side by side, which left these books
abbrev pub HasServedAlone : {C : Type 0} → (C → ℕ → C → Type 0) → Settings → ℕ → C → C → List History → Type 0
HasServedAlone ticks settings first clock later books =
    (opened : Books) × (served : Books)
    × AreOpened first settings.services.items opened.services.items
    × HasServed (λ books. names_in books.services.items) (λ old place moment wanted response new. IsAskedOf old.services.items place moment wanted response new.services.items) ticks opened clock served later
    × (books ≡ books_of served.services.items)

-- what a desk opens a service by: its name, its configuration and its first program
abbrev pub opening_of : ServiceSettings → String Global × Config × Verified
opening_of service = (service.name, service.config, service.program)

-- the services that a desk opens by these settings: each with its name, its configuration, its first program and this number of its first ticket
abbrev pub services_of : ℕ → List ServiceSettings → List ServiceData
services_of first services = map (service_from first) (map opening_of services)

-- many workers: as many as the settings say sat down at a desk with the services, each with this number of its first ticket, and each served connections, side by side, by its seat. The seats that they brought back have these counts, and the desk that was closed with them left these books
abbrev pub HasServedAtDesk : {C : Type 0} → (C → ℕ → C → Type 0) → Settings → ℕ → C → List History → List ℕ → Type 0
HasServedAtDesk {C} ticks settings first clock books counts =
    (desk : DeskData) × (later : List (Worker (SeatedData DeskData SeatData) C))
    × (desk.services ≡ services_of first settings.services.items)
    × HaveWorked (names_by names_at) (asks_by asks) ticks (workers_of clock (map (seated desk (upkeeps_of settings.logging settings.services.items)) (seats_of 1 settings.workers))) later
    × (counts ≡ counts_of (seats_with later))
    × AreClosed desk.services books (seats_with later)

-- the books are kept by a desk: there are many workers, or a log is told of the services
abbrev pub IsShared : Settings → Type 0
IsShared settings = (1 < settings.workers) ⊎ (settings.logging ≡ logging.Changes)

-- by one worker with no log, or by workers, each with a copy of this clock, who keep the books behind locks or in slots as the settings say
abbrev pub HasServedFrom : {C : Type 0} → (C → ℕ → C → Type 0) → Settings → ℕ → C → C → List History → List ℕ → Type 0
HasServedFrom ticks settings first started later books counts =
    ((settings.workers ≡ 1) × (settings.logging ≡ logging.Silent) × HasServedAlone ticks settings first started later books × (counts ≡ []))
    ⊎ (IsShared settings × (settings.keeper ≡ keeper.Lock) × HasServedAtDesk ticks settings first started books counts × (later ≡ started))
    ⊎ (IsShared settings × (settings.keeper ≡ keeper.Slot) × HasServedAtSlots ticks settings first started books counts × (later ≡ started))

-- the same, from the number of the first ticket on that the settings and the clock give, by the clock as that left it
abbrev pub HasServedBy : {C : Type 0} → (C → ℕ → C → Type 0) → Settings → C → C → List History → List ℕ → Type 0
HasServedBy {C} ticks settings clock later books counts =
    (first : ℕ) × (started : C) × IsFirstTicket ticks settings.tickets clock first started × HasServedFrom ticks settings first started later books counts
