-- What is said of a server with any desk says that it served at one with locks.
use Rattle.std.proofs.Common.{◌≡◌, ◌∙◌, ℕ, List, map, subst}
use Rattle.service.specs.declared.upkeep.Upkeep.{Upkeep}
use Rattle.service_profile.specs.Events.{History}
use Rattle.desk.specs.Desks.{DeskData}
use Rattle.http_seats.specs.Locks.{asks, closes, deals, names_at}
use Rattle.http_seats.specs.Seated.{seated, names_by, asks_by}
use Rattle.http_pool.specs.Workers.{HaveWorked}
use Rattle.service_file.specs.declared.settings.Settings.{Settings}
use Rattle.sidecar_server.specs.Opened.{upkeeps_of}
use Rattle.sidecar_server.specs.Seats.{workers_of, HasServedAt}
use Rattle.sidecar_server.specs.Served.{services_of, HasServedAtDesk}

pub served_at_desk : {C : Type 0} (ticks : C → ℕ → C → Type 0) (settings : Settings) (first : ℕ) (clock : C) (desk : DeskData) (upkeeps : List Upkeep) (books : List History) (counts : List ℕ) → desk.services ≡ services_of first settings.services.items → upkeeps ≡ upkeeps_of settings.logging settings.services.items
    → HasServedAt names_at asks deals closes ticks desk upkeeps settings.workers clock books counts → HasServedAtDesk ticks settings first clock books counts
served_at_desk ticks settings first clock desk upkeeps books counts services tended served =
    let worked = subst (λ us. HaveWorked (names_by names_at) (asks_by asks) ticks (workers_of clock (map (seated served.dealt us) served.seats)) served.later) tended served.worked in (
      served.dealt,
      served.later,
      served.sat.0 ∙ services,
      subst (λ seats. HaveWorked (names_by names_at) (asks_by asks) ticks (workers_of clock (map (seated served.dealt (upkeeps_of settings.logging settings.services.items)) seats)) served.later) served.sat.1 worked,
      served.closed.1,
      served.closed.0,
    )
