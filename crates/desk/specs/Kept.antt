-- What a service's lock keeps.
use Rattle.std.specs.Prelude.{◌≡◌, ℕ, ◌+◌, ◌-◌, ◌^◌, List, [], ◌∷◌, Contains, ⊤}
use Rattle.service_profile.specs.Events.{History}
use Rattle.service_profile.specs.Histories.{past_of, next_line}
use Rattle.service_profile.specs.FirstOpening.{first_opening_from}
use Rattle.desk.specs.Services.{ServiceData}
use Rattle.book.specs.Reopened.{IsOpeningAfter}
use Rattle.book.specs.Good.{IsGood}

-- the number of the last entry, 0 before the first
abbrev pub last_number : History → ℕ
last_number history = next_line (past_of history) - 1

-- the history is that of one of these services, with its configuration, its first program and the number of its first ticket, after so many cuts
abbrev pub IsOfOne : List ServiceData → ℕ → History → Type 0
IsOfOne services cuts history = (service : ServiceData) × Contains services service × IsOpeningAfter (first_opening_from service.ticket service.config service.program) cuts history.opening

-- each of these histories is, after as many cuts as stand at its place
abbrev pub AreOfSome : List ServiceData → List ℕ → List History → Type 0
AreOfSome services [] [] = ⊤
AreOfSome services (cuts ∷ later) (history ∷ histories) = IsOfOne services cuts history × AreOfSome services later histories
AreOfSome services other histories = ⊥

-- how many tokens a service has for entries and for cuts. Each entry gives one away, and each cut
abbrev pub most_numbers : ℕ
most_numbers = 2 ^ 64 - 1

abbrev pub most_cuts : ℕ
most_cuts = 2 ^ 63

-- beside such a history one part of both ledgers: what is left of the tokens are those that neither an entry nor a cut has given away
pub record IsKept (services : List ServiceData) (history : History) (entry_parts entries_left cut_parts cuts_left : ℕ) : Type 0 where
  pub good : IsGood history
  pub one_part : (entry_parts ≡ 1) × (cut_parts ≡ 1)
  pub counted : entries_left + last_number history ≡ most_numbers
  pub of_service : (cuts : ℕ) × IsOfOne services cuts history × (cuts_left + cuts ≡ most_cuts)
