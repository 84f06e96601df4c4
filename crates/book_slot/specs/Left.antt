-- What places leave behind, and that nobody else has changed a book.
use Rattle.std.specs.Prelude.{◌≡◌, ◌⊎◌, ℕ, ◌+◌, List, [], ◌∷◌, Option, Some}
use Rattle.service_profile.specs.Events.{History}
use Rattle.service_profile.specs.Histories.{past_of, next_line}
use Rattle.book.specs.Reopened.{IsOpeningAfter}
use Rattle.service_profile.specs.Seats.{lines_of}
use Rattle.book_slot.specs.declared.view.Trace.{Trace}

-- one of these is the history x
abbrev pub Has : History → List History → Type 0
Has x [] = ⊥
Has x (y ∷ ys) = (y ≡ x) ⊎ Has x ys

-- of what some places left behind, P is true of one at least
abbrev pub Among : (Trace → Type 0) → List Trace → Type 0
Among P [] = ⊥
Among P (t ∷ ts) = P t ⊎ Among P ts

-- the sum of a number over all places
abbrev pub total : (Trace → ℕ) → List Trace → ℕ
total f [] = 0
total f (t ∷ ts) = f t + total f ts

-- how many entries the places made
abbrev pub entries_of : List Trace → ℕ
entries_of traces = total (λ t. t.entries) traces

-- how many cuts they made
abbrev pub cuts_of : List Trace → ℕ
cuts_of traces = total (λ t. t.cuts) traces

-- the number that the next entry has
abbrev pub next_number : History → ℕ
next_number history = next_line (past_of history)

-- the place put this history back, and had changed it
abbrev pub HasLeft : History → Trace → Type 0
HasLeft x t = Has x t.left

-- the place has taken this history, or put it back
abbrev pub HasSeen : History → Trace → Type 0
HasSeen x t = Has x t.seen

-- the place has this number, and a history of the same opening that it changed and put back has all entries of the number
abbrev pub HasMade : History → ℕ → Trace → Type 0
HasMade whole number t =
    (t.number ≡ number)
    × ((x : History) × HasLeft x t × (x.opening ≡ whole.opening) × (lines_of number x.lines ≡ lines_of number whole.lines))

-- the history is the first one, or one of the places changed it to this, and put it back
abbrev pub IsLeftBy : List Trace → History → History → Type 0
IsLeftBy traces first x = (x ≡ first) ⊎ Among (HasLeft x) traces

-- nobody but the places that left these traces has changed the book that opened so
pub record AreMadeBy (origin : Option History) (past : ℕ → History) (now : History) (traces : List Trace) : Type 0 where
  pub first : History
  pub is_first : origin ≡ Some first
  -- the history of each opening is the first one, or was left by one of them; and so was each history that one of them saw
  pub left : (period : ℕ) → IsLeftBy traces first (past period)
  pub found : (x : History) → Among (HasSeen x) traces → IsLeftBy traces first x
  -- in each opening the entries of a number are those that a place of this number has left there, or there are none
  pub made : (period number : ℕ) → (lines_of number (past period).lines ≡ []) ⊎ Among (HasMade (past period) number) traces
  -- there are as many entries, and as many cuts, as they have made
  pub entries : next_number now ≡ next_number first + entries_of traces
  pub cuts : IsOpeningAfter first.opening (cuts_of traces) now.opening
