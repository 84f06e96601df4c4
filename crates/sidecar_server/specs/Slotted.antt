-- What becomes of services whose books lie in slots, and that are served by many workers.
use Rattle.std.specs.Prelude.{◌≡◌, ℕ, List, [], map, sum, Option, Some, string_bytes}
use Rattle.service.specs.Asked.{RequestData, ResponseData}
use Rattle.service_profile.specs.Events.{History, history_of}
use Rattle.service_profile.specs.FirstOpening.{first_opening_from}
use Rattle.slot_desk.specs.Closing.{SeatBegins, last_number}
use Rattle.slot_desk.specs.Desks.{DeskData}
use Rattle.slot_desk.specs.Seats.{SeatData}
use Rattle.book_slot.specs.Courses.{Course}
use Rattle.http_seats.specs.Seated.{SeatedData, seated, names_by, asks_by}
use Rattle.http_seats.specs.Slots.{AreClosed, asks, counts_of, names_at, seats_of}
use Rattle.http_pool.specs.declared.workers.Worker.{Worker}
use Rattle.http_pool.specs.Workers.{HaveWorked}
use Rattle.service_file.specs.declared.settings.ServiceSettings.{ServiceSettings}
use Rattle.service_file.specs.declared.settings.Settings.{Settings}
use Rattle.sidecar_server.specs.Opened.{upkeeps_of}
use Rattle.sidecar_server.specs.Seats.{workers_of, seats_with}

abbrev pub names_of : List ServiceSettings → List (List ℕ)
names_of services = map (λ service. string_bytes service.name) services

-- the books of the services as they open: each with its service's configuration and first program, this number of its first ticket, and no entry
abbrev pub origins_of : ℕ → List ServiceSettings → List (Option History)
origins_of first services = map (λ service. Some (history_of (first_opening_from first service.config service.program) [])) services

-- a request was answered by calls of the answerer's seat, each of which found one history and left another, both of which the seat has then seen; and all that the seat has seen after it begins the histories of the services' openings
abbrev pub IsAskedWithin : List Course → SeatedData DeskData SeatData → ℕ → ℕ → RequestData → ResponseData → SeatedData DeskData SeatData → Type 0
IsAskedWithin courses old place moment wanted given new = asks_by asks old place moment wanted given new × SeatBegins courses new.seat

-- as many workers as the settings say sat down at a desk with the services, each with its name, its configuration, its first program and this number of its first ticket, and each worker served connections, side by side, by its seat. The seats that they brought back have these counts, and the desk that was closed with them left these books. Of each service there is one legal history of each opening, the last one that of its book, and each answer that any of the workers gave is the documented machine's at a point of the history of its opening: what its calls found and left begins it, and goes on from what the same worker had seen before, or is of a later opening. The numbers of the last entries of the books add up to the counts
abbrev pub HasServedAtSlots : {C : Type 0} → (C → ℕ → C → Type 0) → Settings → ℕ → C → List History → List ℕ → Type 0
HasServedAtSlots {C} ticks settings first clock books counts =
    (desk : DeskData) × (later : List (Worker (SeatedData DeskData SeatData) C))
    × (closed : AreClosed desk books (seats_with later))
    × (desk.names ≡ names_of settings.services.items)
    × (desk.origins ≡ origins_of first settings.services.items)
    × HaveWorked (names_by names_at) (IsAskedWithin closed.begun.courses) ticks (workers_of clock (map (seated desk (upkeeps_of settings.logging settings.services.items)) (seats_of desk.tables desk.origins 1 settings.workers))) later
    × (counts ≡ counts_of (seats_with later))
    × (sum (map last_number books) ≡ sum counts)
