-- What a seat of the table is between two calls and within one, and what a call does.
use Rattle.std.specs.Prelude.{◌≡◌, ℕ, ◌+◌, [], ◌∷◌, true, false, None}
use Rattle.atomic_table.specs.Table.{Me}
use Rattle.book.specs.Good.{IsGood}
use Rattle.book_slot.specs.Origins.{IsOf}
use Rattle.service_profile.specs.Events.{History}
use Rattle.book_slot.specs.declared.view.View.{View}
use Rattle.book_slot.specs.Trying.{taking}
use Rattle.book_slot.specs.Seen.{Finds}

-- it makes calls, and holds nothing
abbrev pub IsResting : Me History View → Type 0
IsResting m = (m.1 ≡ []) × (m.0.holds ≡ false) × (m.0.sits ≡ true) × (m.0.parts ≡ 1)

-- between two calls of the place of this number
abbrev pub IsAtRest : Me History View → ℕ → Type 0
IsAtRest m number = IsResting m × (m.0.number ≡ number) × (m.0.told ≡ None)

-- the dealer's seat, after so many places, of which so many came back
abbrev pub IsDealer : Me History View → ℕ → ℕ → Type 0
IsDealer m dealt back = (m.1 ≡ []) × (m.0.holds ≡ false) × (m.0.sits ≡ false) × (m.0.deals ≡ true) × (m.0.next ≡ dealt + 1) × (m.0.parts + dealt ≡ 129 + back)

-- the seat holds the slot 0, with a history of which P is true
abbrev pub HoldsOne : Me History View → (History → Type 0) → Type 0
HoldsOne m P = (history : History) × (m.1 ≡ (0, history) ∷ []) × P history

-- a history was taken, which is good, of the slot's book, and what the seat must find
abbrev pub Holds : Me History View → Me History View → Type 0
Holds m m' = HoldsOne m' (λ history. IsOf m.0.origin history × Finds m.0 history × (m'.0 ≡ taking m.0 history))

-- the book that is held was one history and is another, which is good
pub record Does (Did : History → History → Type 0) (m m' : Me History View) : Type 0 where
  pub before : History
  pub after : History
  pub held : m.1 ≡ (0, before) ∷ []
  pub holds : m' ≡ (m.0, (0, after) ∷ [])
  pub did : Did before after
  pub good : IsGood after
