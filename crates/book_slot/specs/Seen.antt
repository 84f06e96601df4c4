-- What was seen of a book, and how it lies in the histories of its openings.
use Rattle.std.specs.Prelude.{◌≡◌, ℕ, ◌<◌, ◌≤◌, List, [], ◌∷◌, Option, Some, None}
use Rattle.service_profile.specs.Events.{EntryData, History}
use Rattle.service_profile.specs.Seats.{lines_of, BeginsWith}
use Rattle.book_slot.specs.declared.view.Trace.{Trace}
use Rattle.book_slot.specs.declared.view.View.{View}

-- the history goes on from what was seen, in the same opening
abbrev pub Begins : History → History → Type 0
Begins history x = (x.opening ≡ history.opening) × BeginsWith history.lines x.lines

-- what a seat finds that has seen this, has this number, and has made these entries
pub data FoundAfter (seen : Option History) (number : ℕ) (mine : List EntryData) (history : History) : Type 0 where
  -- it had seen nothing, and has made no entry
  at_first : seen ≡ None → lines_of number history.lines ≡ [] → FoundAfter seen number mine history
  -- the history begins with what was seen, and its entries are those that it made
  goes_on : (x : History) → seen ≡ Some x → Begins history x → lines_of number history.lines ≡ mine → FoundAfter seen number mine history
  -- a later opening than the one that was seen, in which it has made no entry
  later : (x : History) → seen ≡ Some x → x.opening.period < history.opening.period → lines_of number history.lines ≡ [] → FoundAfter seen number mine history

abbrev pub Finds : View → History → Type 0
Finds v history = FoundAfter v.seen v.number v.mine history

-- what was seen, if anything, begins the history of its opening, which is the last one or an earlier one
abbrev pub IsPast : (ℕ → History) → History → Option History → Type 0
IsPast past now None = Unit {0}
IsPast past now (Some x) = (x.opening.period ≤ now.opening.period) × Begins (past x.opening.period) x

-- the same of all that one seat has seen, and of all that several have
abbrev pub AllPast : (ℕ → History) → History → List History → Type 0
AllPast past now [] = Unit {0}
AllPast past now (x ∷ xs) = IsPast past now (Some x) × AllPast past now xs

abbrev pub ArePast : (ℕ → History) → History → List Trace → Type 0
ArePast past now [] = Unit {0}
ArePast past now (t ∷ others) = AllPast past now t.seen × ArePast past now others
