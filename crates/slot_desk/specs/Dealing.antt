-- How a desk opens, and why it gives no seat.
use Rattle.std.specs.Prelude.{◌≡◌, ◌⊎◌, ℕ, ◌<◌, List, [], Option, Some, String, string_bytes}
use Rattle.std.specs.Global.{Global}
use Rattle.refusals.specs.declared.RefusalNumber.{RefusalNumber}
use Rattle.refusals.specs.declared.RefusalNumber.TheVariants as refusal
use Rattle.service.specs.Desks.{most_seats}
use Rattle.service_profile.specs.declared.configuration.Config.{Config}
use Rattle.service_profile.specs.Events.{History, history_of}
use Rattle.service_profile.specs.FirstOpening.{first_opening_from}
use Rattle.verifier.specs.declared.verified.Verified.{Verified}

-- the name of a service that is opened by these
abbrev pub name_of : String Global × Config × Verified → List ℕ
name_of opening = string_bytes opening.0

-- the book of a service that is opened by these, whose first ticket has this number
abbrev pub first_from : ℕ → String Global × Config × Verified → Option History
first_from ticket opening = Some (history_of (first_opening_from ticket opening.1 opening.2) [])

-- the same, whose tickets are numbered from 1
abbrev pub first_of : String Global × Config × Verified → Option History
first_of opening = first_from 1 opening

-- why there is no seat, where so many were given: it would be the 129th, or there was no memory for it
abbrev pub IsUnseated : ℕ → RefusalNumber → Type 0
IsUnseated given number = ((number ≡ refusal.SeatsFull) × (given ≡ most_seats)) ⊎ ((number ≡ refusal.ServiceOutOfMemory) × (given < most_seats))
