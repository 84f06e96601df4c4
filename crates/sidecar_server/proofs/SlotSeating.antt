-- Of workers with seats of a desk whose books lie in slots: each answer was given within the histories of the services' openings, and the numbers of the last entries add up. So what is said of a server with any desk says that it served at slots.
use Rattle.std.proofs.Common.{◌≡◌, ◌∙◌, ℕ, List, [], ◌∷◌, map, sum, Option, ap, refl, subst, String, Global, arith, string_bytes}
use Rattle.std.specs.List.{AllByRecursion}
use Rattle.service.specs.Asked.{RequestData, ResponseData}
use Rattle.service.specs.Upkept.{upkeep_at}
use Rattle.service.specs.declared.upkeep.Upkeep.{Upkeep}
use Rattle.service_profile.specs.Events.{History}
use Rattle.service_profile.specs.declared.configuration.Config.{Config}
use Rattle.verifier.specs.declared.verified.Verified.{Verified}
use Rattle.book_slot.specs.Courses.{Course}
use Rattle.slot_desk.specs.Closing.{SeatBegins, NumbersAgree, last_number, first_number}
use Rattle.slot_desk.specs.Desks.{DeskData}
use Rattle.slot_desk.specs.Dealing.{name_of, first_from}
use Rattle.slot_desk.specs.Seats.{SeatData}
use Rattle.slot_desk.proofs.Backwards.{served_back}
use Rattle.http_seats.specs.Seated.{SeatedData, seated, names_by, asks_by}
use Rattle.http_seats.specs.Slots.{asks, closes, counts_of, deals, names_at}
use Rattle.http_pool.specs.declared.workers.Worker.{Worker}
use Rattle.http_pool.specs.Workers.{HaveWorked}
use Rattle.service_file.specs.declared.settings.ServiceSettings.{ServiceSettings}
use Rattle.service_file.specs.declared.settings.Settings.{Settings}
use Rattle.sidecar_server.specs.Opened.{upkeeps_of}
use Rattle.sidecar_server.specs.Seats.{workers_of, seats_with, HasServedAt}
use Rattle.sidecar_server.specs.Served.{opening_of}
use Rattle.sidecar_server.specs.Slotted.{names_of, origins_of, HasServedAtSlots, IsAskedWithin}
use Rattle.sidecar_server.proofs.Along.{worker}

module _ {C : Type 0} (ticks : C → ℕ → C → Type 0) where
  answered_within : (courses : List Course) (s : SeatedData DeskData SeatData) (place moment : ℕ) (wanted : RequestData) (given : ResponseData) (t : SeatedData DeskData SeatData) → asks_by asks s place moment wanted given t → SeatBegins courses t.seat → SeatBegins courses s.seat × IsAskedWithin courses s place moment wanted given t
  answered_within courses s place moment wanted given t is begins = (served_back courses (upkeep_at s.upkeeps place) place s.seat moment wanted given t.seat is.2 begins, (is, begins))

  pub worked_within : (courses : List Course) (workers later : List (Worker (SeatedData DeskData SeatData) C)) → HaveWorked (names_by names_at) (asks_by asks) ticks workers later → AllByRecursion (SeatBegins courses) (seats_with later) → HaveWorked (names_by names_at) (IsAskedWithin courses) ticks workers later
  worked_within courses [] [] worked begin = tt
  worked_within courses [] (v ∷ later) worked begin = absurd worked
  worked_within courses (w ∷ workers) [] worked begin = absurd worked
  worked_within courses (w ∷ workers) (v ∷ later) worked begin =
      ((worker (names_by names_at) (asks_by asks) (IsAskedWithin courses) ticks (λ s. SeatBegins courses s.seat) (answered_within courses) w.answerer w.clock v.answerer v.clock worked.0 begin.0).1, worked_within courses workers later worked.1 begin.1)

-- the desk has the names of the settings' services
pub named_as : (services : List ServiceSettings) (openings : List (String Global × Config × Verified)) → openings ≡ map opening_of services → map name_of openings ≡ names_of services
named_as services openings opened = ap (map name_of) opened ∙ named services
  where
    named : (services : List ServiceSettings) → map name_of (map opening_of services) ≡ names_of services
    named [] = refl
    named (s ∷ services) = ap (λ names. string_bytes s.name ∷ names) (named services)

-- and their books, as they open
firsts : (first : ℕ) (services : List ServiceSettings) → map (first_from first) (map opening_of services) ≡ origins_of first services
firsts first [] = refl
firsts first (s ∷ services) = ap (λ later. first_from first (opening_of s) ∷ later) (firsts first services)

pub opened_as : (first : ℕ) (services : List ServiceSettings) (openings : List (String Global × Config × Verified)) → openings ≡ map opening_of services → map (first_from first) openings ≡ origins_of first services
opened_as first services openings opened = ap (map (first_from first)) opened ∙ firsts first services

-- ---- the numbers of the last entries

-- each book opened with none
none_numbered : (first : ℕ) (services : List ServiceSettings) → sum (map first_number (origins_of first services)) ≡ 0
none_numbered first [] = refl
none_numbered first (service ∷ services) = none_numbered first services

pub numbers_add_up : (first : ℕ) (origins : List (Option History)) (services : List ServiceSettings) (books : List History) (seats : List SeatData) (counts : List ℕ) → origins ≡ origins_of first services → NumbersAgree origins books seats → counts ≡ counts_of seats → sum (map last_number books) ≡ sum counts
numbers_add_up first origins services books seats counts are agree same =
    let none : sum (map first_number origins) ≡ 0 = ap (λ os. sum (map first_number os)) are ∙ none_numbered first services in
    let counted : sum counts ≡ sum (map (λ seat. seat.count) seats) = ap sum same in
    omega (arith, agree, none, counted)

-- ---- what is said of any desk

pub served_at_slots : {C : Type 0} (ticks : C → ℕ → C → Type 0) (settings : Settings) (first : ℕ) (clock : C) (desk : DeskData) (upkeeps : List Upkeep) (books : List History) (counts : List ℕ) → desk.names ≡ names_of settings.services.items → desk.origins ≡ origins_of first settings.services.items → upkeeps ≡ upkeeps_of settings.logging settings.services.items → HasServedAt names_at asks deals closes ticks desk upkeeps settings.workers clock books counts → HasServedAtSlots ticks settings first clock books counts
served_at_slots ticks settings first clock desk upkeeps books counts names origins tended served_ =
    let served : HasServedAt names_at asks deals closes ticks desk (upkeeps_of settings.logging settings.services.items) settings.workers clock books counts = subst (λ us. HasServedAt names_at asks deals closes ticks desk us settings.workers clock books counts) tended served_ in
    let shut = served.closed.0 in
    let opened = served.sat.2 ∙ origins in
    let worked = worked_within ticks shut.begun.courses (workers_of clock (map (seated served.dealt (upkeeps_of settings.logging settings.services.items)) served.seats)) served.later served.worked shut.begun.begun in (
      served.dealt,
      served.later,
      shut,
      served.sat.0 ∙ names,
      opened,
      subst (λ seats. HaveWorked (names_by names_at) (IsAskedWithin shut.begun.courses) ticks (workers_of clock (map (seated served.dealt (upkeeps_of settings.logging settings.services.items)) seats)) served.later) served.sat.3 worked,
      served.closed.1,
      numbers_add_up first served.dealt.origins settings.services.items books (seats_with served.later) counts opened shut.agree served.closed.1,
    )
