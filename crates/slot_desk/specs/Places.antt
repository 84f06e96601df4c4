-- What contracts see of a service of a desk, as a seat is lent it.
use Rattle.std.specs.Prelude.{ℕ}
use Rattle.bpf_profile.specs.Outcomes.{Outcome}
use Rattle.service.specs.declared.request.Report.{Report}
use Rattle.slot_desk.specs.Desks.{DeskData}
use Rattle.slot_desk.specs.Seats.{SeatData, IsSeatOf}

-- this service of a desk
pub record ServicePlaceData : Type 0 where
  pub desk : DeskData
  pub service : ℕ

abbrev pub service_place : DeskData → ℕ → ServicePlaceData
service_place desk service = record { desk = desk; service = service }

-- a seat is lent the services of its own desk alone
abbrev pub fits : ServicePlaceData → SeatData → Type 0
fits place seat = IsSeatOf place.desk seat

abbrev pub report_of : ℕ → Outcome → Report
report_of ticket outcome = record { ticket = ticket; outcome = outcome }
