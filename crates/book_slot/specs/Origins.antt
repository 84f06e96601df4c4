-- Of which book a history is.
use Rattle.std.specs.Prelude.{◌≡◌, ℕ, Option, Some}
use Rattle.service_profile.specs.Events.{History}
use Rattle.book.specs.Reopened.{IsOpeningAfter}
use Rattle.book.specs.Good.{IsGood}

-- a good history of a book that opened first with this one: of its opening, or of one after some cuts
pub record IsOf (origin : Option History) (history : History) : Type 0 where
  pub good : IsGood history
  pub cuts : ℕ
  pub first : History
  pub is_first : origin ≡ Some first
  pub after_cuts : IsOpeningAfter first.opening cuts history.opening
