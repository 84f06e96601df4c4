-- A seat, and what calls do to its counts.
use Rattle.std.specs.Prelude.{ℕ, ◌+◌, Result, Ok, Err}
use Rattle.service_profile.specs.declared.replies.Reply.{Reply}
use Rattle.book.specs.Counts.{entries_made}

-- its number, how many entries its calls have made, and how many cuts
pub record SeatData : Type 0 where
  pub number : ℕ
  pub count : ℕ
  pub cuts : ℕ

abbrev pub seat_of : ℕ → ℕ → ℕ → SeatData
seat_of number count cuts = record { number = number; count = count; cuts = cuts }

-- the seat after a call with this reply
abbrev pub after_call : SeatData → Reply → SeatData
after_call seat r = record { number = seat.number; count = seat.count + entries_made r; cuts = seat.cuts }

-- the seat after a cut that handed out entries, or was refused
abbrev pub cuts_made : {A E : Type 0} → Result A E → ℕ
cuts_made (Ok entries) = 1
cuts_made (Err number) = 0

abbrev pub after_cut : {A E : Type 0} → SeatData → Result A E → SeatData
after_cut seat found = record { number = seat.number; count = seat.count; cuts = seat.cuts + cuts_made found }
