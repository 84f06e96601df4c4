-- A history as every book keeps it.
use Rattle.service_profile.specs.Events.{History}
use Rattle.service_profile.specs.Histories.{past_of, IsLegal}
use Rattle.book.specs.Accepted.{IsSafeProgram}
use Rattle.book.specs.Sound.{IsSound}

-- a legal history, of which all holds that legal histories keep
pub record IsGood (history : History) : Type 0 where
  pub legal : IsLegal history
  pub sound : IsSound IsSafeProgram (past_of history)
