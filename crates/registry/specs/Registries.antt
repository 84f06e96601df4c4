-- What a registry is, what it answers, and what its calls change.
use Rattle.std.specs.Prelude.{◌≡◌, ℕ, ◌+◌, ◌-◌, ◌==◌, ◌<◌, ◌≤◌, ◌^◌, nat_le, nat_lt, ◌&&◌, not, Bool, if◌then◌else◌, List, [], ◌∷◌, ◌++◌, length, map, drop, Option, Some, None, Result, Ok, Err}
use Rattle.std.specs.List.{AllByRecursion, filter}
use Rattle.std.specs.List.Sorted.{IsStrictlyIncreasing}
use Rattle.std.specs.Option.{ok_or}
use Rattle.refusals.specs.declared.RefusalNumber.{RefusalNumber}
use Rattle.refusals.specs.declared.RefusalNumber.TheVariants as refusal
use Rattle.bpf_profile.specs.Programs.{VerifiedProgram}
use Rattle.service_profile.specs.declared.tickets.OpenTicket.{OpenTicket}
use Rattle.service_profile.specs.Answers.{least_version}
use Rattle.service_profile.specs.Limits.{most_versions}
use Rattle.service_profile.specs.Machine.{open_ticket, program_from}

-- what contracts see of a registry
pub record RegistryData : Type 0 where
  -- the programs of the versions that are held, from the first of these versions on
  pub first_version : ℕ
  pub programs : List VerifiedProgram
  -- in the order of their numbers, which is that in which they were issued
  pub open_tickets : List OpenTicket
  pub next_ticket : ℕ
  -- how many more programs can be held without taking memory
  pub program_room : ℕ

abbrev pub registry_of : ℕ → List VerifiedProgram → List OpenTicket → ℕ → ℕ → RegistryData
registry_of first programs tickets next room = record { first_version = first; programs = programs; open_tickets = tickets; next_ticket = next; program_room = room }

-- a registry that holds one program, and has no ticket before the next one
abbrev pub opened : VerifiedProgram → ℕ → ℕ → ℕ → RegistryData
opened program version ticket room = registry_of version (program ∷ []) [] ticket room

-- ---- versions

-- the version of new tickets
abbrev pub current_version : RegistryData → ℕ
current_version r = r.first_version + (length r.programs - 1)

-- the version of the next program that is installed
abbrev pub next_version : RegistryData → ℕ
next_version r = r.first_version + length r.programs

-- other memory, and all else as it was
abbrev pub with_room : RegistryData → ℕ → RegistryData
with_room r room = record r { program_room = room }

-- a program more, under the next version
abbrev pub with_program : RegistryData → VerifiedProgram → ℕ → RegistryData
with_program r program room = record r { programs = r.programs ++ program ∷ []; program_room = room }

-- the current program alone, under its version
abbrev pub with_current : RegistryData → RegistryData
with_current r = record r {
  first_version = current_version r;
  programs = drop (length r.programs - 1) r.programs;
  program_room = r.program_room + (length r.programs - 1);
}

-- the least version of an open ticket, or else that of new tickets
abbrev pub least_needed : RegistryData → ℕ
least_needed r = least_version (current_version r) r.open_tickets

-- the programs from that version on
abbrev pub without_unneeded : RegistryData → RegistryData
without_unneeded r = record r {
  first_version = least_needed r;
  programs = drop (least_needed r - r.first_version) r.programs;
  program_room = r.program_room + (least_needed r - r.first_version);
}

-- ---- tickets

-- the number was given to a ticket, in this opening or an earlier one
abbrev pub is_issued : RegistryData → ℕ → Bool
is_issued r ticket = nat_le 1 ticket && nat_lt ticket r.next_ticket

-- the numbers ascend
abbrev pub Ascend : List OpenTicket → Type 0
Ascend tickets = IsStrictlyIncreasing (map (λ ticket. ticket.number) tickets)

-- the next ticket, of a period and a moment
abbrev pub next_open : RegistryData → ℕ → ℕ → OpenTicket
next_open r period moment = record { number = r.next_ticket; version = current_version r; period = period; moment = moment }

abbrev pub with_ticket : RegistryData → ℕ → ℕ → RegistryData
with_ticket r period moment = record r { open_tickets = r.open_tickets ++ next_open r period moment ∷ []; next_ticket = r.next_ticket + 1 }

abbrev pub without_ticket : RegistryData → ℕ → RegistryData
without_ticket r number = record r { open_tickets = filter (λ ticket. not (ticket.number == number)) r.open_tickets }

-- the open ticket, or that it has ended
abbrev pub spent_or_open : Option OpenTicket → Result OpenTicket RefusalNumber
spent_or_open None = Err refusal.TicketSpent
spent_or_open (Some ticket) = Ok ticket

-- the ticket of a number, or why it is not open: it was never issued, or it has ended
abbrev pub ticket_in : RegistryData → ℕ → Result OpenTicket RefusalNumber
ticket_in r number = if is_issued r number then spent_or_open (open_ticket r.open_tickets number) else Err refusal.NoTicket

abbrev pub looked_with : RegistryData → Option OpenTicket → Result VerifiedProgram RefusalNumber
looked_with r None = Err refusal.TicketSpent
looked_with r (Some ticket) = ok_or (program_from r.first_version r.programs ticket.version) refusal.TicketSpent

-- the program that judges under a ticket, or why there is none
abbrev pub looked_in : RegistryData → ℕ → Result VerifiedProgram RefusalNumber
looked_in r ticket = if is_issued r ticket then looked_with r (open_ticket r.open_tickets ticket) else Err refusal.NoTicket

-- one more owner of the program that was found; or the program can have no more owners
pub data IsShared (found result : Result VerifiedProgram RefusalNumber) : Type 0 where
  shares : result ≡ found → IsShared found result
  no_owner : (program : VerifiedProgram) → found ≡ Ok program → result ≡ Err refusal.ServiceOutOfMemory → IsShared found result

-- ---- what a registry keeps

-- a ticket has one of the numbers that were given, and its version is held
pub record IsTicketOf (first versions next : ℕ) (ticket : OpenTicket) : Type 0 where
  pub given : 1 ≤ ticket.number
  pub before : ticket.number < next
  pub not_older : first ≤ ticket.version
  pub not_newer : ticket.version < first + versions

abbrev pub AreTicketsOf : RegistryData → List OpenTicket → Type 0
AreTicketsOf r tickets = AllByRecursion (IsTicketOf r.first_version (length r.programs) r.next_ticket) tickets

pub record IsRegistry (r : RegistryData) : Type 0 where
  pub some : 1 ≤ length r.programs
  pub few : length r.programs ≤ most_versions
  pub numbered : next_version r < 2 ^ 64
  pub begun : 1 ≤ r.next_ticket
  pub tickets : AreTicketsOf r r.open_tickets
