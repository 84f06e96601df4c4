-- From which number on the tickets of services are numbered.
use Rattle.std.specs.Prelude.{◌≡◌, ℕ, ◌*◌, ◌-◌, ◌^◌, max, min}
use Rattle.service_file.specs.declared.numbering.Tickets.{Tickets}
use Rattle.service_file.specs.declared.numbering.Tickets.TheVariants as tickets

-- 1,024 numbers for each millisecond since 1970, and none is 2^53 or greater: moments from 2^43 ms on count as the one before
abbrev pub first_ticket_by : ℕ → ℕ
first_ticket_by moment = max 1 (min moment (2 ^ 43 - 1) * 1024)

-- the number of the first ticket of each service that a server opens, and the clock that it serves by from there on: the clock is read only where the numbers begin by it
abbrev pub IsFirstTicket : {C : Type 0} → (C → ℕ → C → Type 0) → Tickets → C → ℕ → C → Type 0
IsFirstTicket ticks tickets.FromOne clock first started = (first ≡ 1) × (started ≡ clock)
IsFirstTicket ticks tickets.ByTheClock clock first started = (moment : ℕ) × ticks clock moment started × (first ≡ first_ticket_by moment)
