-- The newest ticket beside the others.
use Rattle.std.specs.Prelude.{◌==◌, ◌<◌, ℕ, Bool, false, List, [], ◌∷◌, ◌++◌, Option, Some, None, ⊤}
use Rattle.std.specs.List.{AllByRecursion}
use Rattle.service_profile.specs.declared.tickets.OpenTicket.{OpenTicket}

-- the older tickets, and the newest one behind them
abbrev pub with_newest : List OpenTicket → Option OpenTicket → List OpenTicket
with_newest older None = older
with_newest older (Some ticket) = older ++ ticket ∷ []

-- its number is above all others
abbrev pub IsNewest : List OpenTicket → Option OpenTicket → Type 0
IsNewest older None = ⊤
IsNewest older (Some ticket) = AllByRecursion (λ other. other.number < ticket.number) older

abbrev pub has_number : Option OpenTicket → ℕ → Bool
has_number None number = false
has_number (Some ticket) number = ticket.number == number
