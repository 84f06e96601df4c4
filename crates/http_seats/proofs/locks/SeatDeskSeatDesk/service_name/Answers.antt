use Rattle.std.proofs.Common.{◌<◌, List, ℕ, length, map, subst, sym, ap, ◌∙◌}
use Rattle.std.proofs.lemmas.List.{length-map}
use Rattle.std.specs.List.{slice_get}
use Rattle.desk.specs.Services.{ServiceData}
use Rattle.http_seats.proofs.locks.SeatDeskSeatDesk.service_name.Goals as goal

pub name-requires : goal.name-requires
name-requires g c =
    record { held = subst (λ place. place < length c.args.desk.now.services) (sym c.at.ensures) (subst (λ n. c.args.place < n) (length-map c.args.desk.now.services (λ (service : ServiceData). service.name)) c.requires.within) }

pub returns : goal.returns
returns g c =
    let names : List (List ℕ) = map (λ (service : ServiceData). service.name) c.args.desk.now.services in
    ap (λ place. slice_get names place) (sym c.at.ensures) ∙ c.name.ensures
