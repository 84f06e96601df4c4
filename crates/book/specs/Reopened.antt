-- Where a book opens again.
use Rattle.std.specs.Prelude.{◌≡◌, ℕ, zero, suc, Ok}
use Rattle.service_profile.specs.Answers.{cut}
use Rattle.service_profile.specs.Events.{Opening, History}
use Rattle.service_profile.specs.Histories.{past_of}
use Rattle.book.specs.Good.{IsGood}

-- an opening of a book that opened first so, after so many cuts: the first one; or the documented one of a cut, after a good history with such an opening
abbrev pub IsOpeningAfter : Opening → ℕ → Opening → Type 0
IsOpeningAfter first zero opening = opening ≡ first
IsOpeningAfter first (suc cuts) opening = (before : History) × IsOpeningAfter first cuts before.opening × IsGood before × (cut (past_of before) ≡ Ok opening)
