-- How a map from numbers to terms stands for open tickets.
use Rattle.std.specs.Prelude.{ℕ, min, List, [], ◌∷◌, ◌++◌}
use Rattle.std.specs.List.{fold}
use Rattle.std.specs.declared.cmp.Reverse.{Reverse}
use Rattle.service_profile.specs.declared.tickets.OpenTicket.{OpenTicket}
use Rattle.registry.specs.declared.ticket_map.Terms.{Terms}

-- the ticket of a number and its terms
abbrev pub ticket_of : ℕ → Terms → OpenTicket
ticket_of number terms = record { number = number; version = terms.version; period = terms.period; moment = terms.moment }

-- the tickets that a map's entries stand for, in the order of their numbers; the map has the greatest first
abbrev pub tickets_of : List (Reverse ℕ × Terms) → List OpenTicket
tickets_of [] = []
tickets_of (e ∷ es) = tickets_of es ++ ticket_of e.0.0 e.1 ∷ []

-- the least version of some terms, or else this one
abbrev pub least_of : ℕ → List Terms → ℕ
least_of current terms = fold (λ least one. min least one.version) current terms
