-- The rule of the table, and what each step tells. Word 0 is 1 where the book is at home, and else 0.
use Rattle.std.specs.Prelude.{◌≡◌, ◌≢◌, ◌⊎◌, ℕ, ◌+◌, ◌-◌, ◌<◌, ◌≤◌, List, [], ◌∷◌, ◌++◌, Bool, true, false, Option, Some, None, Ok}
use mathlib.Core.Option.{some, none}
use lib.ListN.{get_elem?}
use Rattle.atomic_table.specs.Table.{State, Me, Step}
use Rattle.service_profile.specs.Events.{EntryData, History}
use Rattle.service_profile.specs.Answers.{with_line, cut}
use Rattle.service_profile.specs.Histories.{past_of}
use Rattle.book.specs.Good.{IsGood}
use Rattle.book_slot.specs.Origins.{IsOf}
use Rattle.service_profile.specs.Seats.{lines_of}
use Rattle.book_slot.specs.declared.view.Trace.{Trace}
use Rattle.book_slot.specs.declared.view.View.{View}
use Rattle.book_slot.specs.Seen.{Finds, IsPast, AllPast, ArePast}
use Rattle.book_slot.specs.Left.{next_number, AreMadeBy}
use Rattle.book_slot.specs.Views.{trace, entries_since, cuts_since, left_after}
use Rattle.book_slot.specs.Trying.{spent, newcomer, taking, missing}
use Rattle.book_slot.specs.Courses.{AreOfOne}

-- ---- views

-- the book that was laid into the slot, of what is remembered of it
abbrev pub origin_of : List History → Option History
origin_of [] = None
origin_of (first ∷ others) = Some first

-- the view of who deals the places
abbrev pub dealer : Option History → ℕ → ℕ → List Trace → View
dealer origin next parts known = record spent { origin = origin; deals = true; next = next; parts = parts; known = known }

abbrev pub dealt : View → View
dealt v = record v { next = v.next + 1; parts = v.parts - 1 }

abbrev pub dealt_to : View → View
dealt_to v = newcomer v.origin v.next

-- the same, by the number that the view has
abbrev pub trace_of : View → Trace
trace_of v = trace v.number v

-- the traces that a view has: its own one, where it makes calls, and else those of the places that were given back
abbrev pub traces_by : Bool → Trace → List Trace → List Trace
traces_by true own known = own ∷ []
traces_by false own known = known

abbrev pub traces_in : View → List Trace
traces_in v = traces_by v.sits (trace_of v) v.known

-- the traces that all views have
abbrev pub traces_of : List View → List Trace
traces_of [] = []
traces_of (v ∷ vs) = traces_in v ++ traces_of vs

-- the dealer's view after it took a place back that has the view w
abbrev pub gathered : View → View → View
gathered v w = record v { parts = v.parts + w.parts; known = v.known ++ trace_of w ∷ [] }

abbrev pub note : View → View
note v = record spent { told = v.seen }

abbrev pub informed : View → View → View
informed v w = record v { told = w.told }

-- seen and own entries are those of the history put
abbrev pub putting : View → History → View
putting v history = record v {
  holds = false;
  seen = Some history;
  all_seen = v.all_seen ++ history ∷ [];
  left = left_after v.left v.seen history;
  mine = lines_of v.number history.lines;
  entries = v.entries + entries_since v.seen history;
  cuts = v.cuts + cuts_since v.seen history;
}

-- ---- the rule

abbrev pub Each : (View → Type 0) → List View → Type 0
Each P views = (j : ℕ) (v : View) → get_elem? views j ≡ some v → P v

abbrev pub Idle : List View → Type 0
Idle views = Each (λ v. v.holds ≡ false) views

abbrev pub OnlyHolder : List View → ℕ → History → Type 0
OnlyHolder views who history =
    ((v : View) × (get_elem? views who ≡ some v) × (v.holds ≡ true) × (v.sits ≡ true) × (v.seen ≡ Some history))
    × ((j : ℕ) (v : View) → get_elem? views j ≡ some v → v.holds ≡ true → j ≡ who)

abbrev pub AtHome : State History View → History → Type 0
AtHome s history = (s.words ≡ 1 ∷ []) × (s.homes ≡ some history ∷ []) × Idle s.views

abbrev pub IsOut : State History View → History → Type 0
IsOut s history = (s.words ≡ 0 ∷ []) × (s.homes ≡ none ∷ []) × ((who : ℕ) × OnlyHolder s.views who history)

-- what a view says is true of the last history and of those of the earlier openings
pub record Fits (origin : Option History) (past : ℕ → History) (now : History) (v : View) : Type 0 where
  pub seat : v.sits ≡ true → Finds v now × IsPast past now v.seen × (v.origin ≡ origin) × AllPast past now v.all_seen
  pub told : IsPast past now v.told
  pub known : ArePast past now v.known
  pub source : v.deals ≡ true → v.origin ≡ origin
  pub fresh : v.deals ≡ true → (by : ℕ) → v.next ≤ by → lines_of by now.lines ≡ []
  pub backed : v.holds ≡ true → 0 < v.parts
  -- where it has no part of the right to close, it has no trace either
  pub bare : v.parts ≡ 0 → traces_in v ≡ []

-- whether it makes calls, its number, whether it deals, and the next number
abbrev pub card : View → Bool × ℕ × Bool × ℕ
card v = (v.sits, v.number, v.deals, v.next)

-- no two seats have one number, one seat deals, and the next number is above all
pub record Agree (j k : ℕ) (a b : Bool × ℕ × Bool × ℕ) : Type 0 where
  pub apart : a.0 ≡ true → b.0 ≡ true → a.1 ≡ b.1 → j ≡ k
  pub below : a.2 ≡ true → b.0 ≡ true → b.1 < a.3
  pub one : a.2 ≡ true → b.2 ≡ true → j ≡ k

abbrev pub Pairs : List View → Type 0
Pairs views = (j k : ℕ) (v w : View) → get_elem? views j ≡ some v → get_elem? views k ≡ some w → Agree j k (card v) (card w)

abbrev pub parts_of : List View → ℕ
parts_of [] = 0
parts_of (v ∷ vs) = v.parts + parts_of vs

pub record Kept (origin : Option History) (s : State History View) : Type 0 where
  -- the last history, and that of each opening, by its first period
  pub now : History
  pub past : ℕ → History
  pub current : past now.opening.period ≡ now
  pub good : (period : ℕ) → IsOf origin (past period)
  pub place : AtHome s now ⊎ IsOut s now
  pub fits : Each (Fits origin past now) s.views
  pub pairs : Pairs s.views
  pub parts : parts_of s.views ≡ 129
  -- nobody but those who have, or had, a view here has changed the book
  pub made : AreMadeBy origin past now (traces_of s.views)

-- ---- the steps

-- at 1 the book was taken, and else nothing but the count of misses changed
abbrev pub Took : Step History → Me History View → ℕ → Me History View → Type 0
Took st m found m' =
    (found ≡ 1 → (history : History) × IsOf m.0.origin history × Finds m.0 history × (m'.0 ≡ taking m.0 history) × (m'.1 ≡ (0, history) ∷ []))
    × (found ≢ 1 → (m'.0 ≡ missing m.0) × (m'.1 ≡ m.1))

-- what a seat of this number may put back in the place of a history
pub data Grows (number : ℕ) (history after : History) : Type 0 where
  same : after ≡ history → Grows number history after
  -- entries were handed out
  hands_out : after.opening ≡ history.opening → after.lines ≡ history.lines → Grows number history after
  entry : (l : EntryData) → l.seat ≡ number → after ≡ with_line history l → Grows number history after
  -- the documented cut of a good history, after which the numbers of the entries go on
  opens : after.lines ≡ [] → history.opening.period < after.opening.period → IsGood history → cut (past_of history) ≡ Ok after.opening
      → next_number after ≡ next_number history → Grows number history after

abbrev pub MayPut : View → History → Type 0
MayPut v after = IsOf v.origin after × ((history : History) × (v.seen ≡ Some history) × Grows v.number history after)

abbrev pub Put : Step History → Me History View → ℕ → Me History View → Type 0
Put st m found m' = (after : History) → m.1 ≡ (0, after) ∷ [] → (m'.0 ≡ putting m.0 after) × (m'.1 ≡ [])

abbrev pub Met : Step History → Me History View → ℕ → Me History View → Type 0
Met st m found m' = (m'.0 ≡ record m.0 { told = None }) × (m'.1 ≡ m.1) × AreOfOne m.0.seen m.0.told
