-- What desks of both kinds have in common: how many seats and services there are at most, and why one is not closed.
use Rattle.std.specs.Prelude.{◌≡◌, ◌≢◌, ◌⊎◌, ℕ}
use Rattle.refusals.specs.declared.RefusalNumber.{RefusalNumber}
use Rattle.refusals.specs.declared.RefusalNumber.TheVariants as refusal

-- how many seats a desk gives at most, and how many services it has at most
abbrev pub most_seats : ℕ
most_seats = 128

abbrev pub most_services : ℕ
most_services = 64

-- as many seats were brought as this, of as many as that: not exactly all, or there was no memory for the books
abbrev pub IsUnclosed : ℕ → ℕ → RefusalNumber → Type 0
IsUnclosed brought given number =
    ((number ≡ refusal.SeatsMissing) × (brought ≢ given))
    ⊎ ((number ≡ refusal.ServiceOutOfMemory) × (brought ≡ given))
