-- What becomes of a book: the history of each of its openings.
use Rattle.std.specs.Prelude.{◌≡◌, ℕ, List, Option, Some, None}
use Rattle.service_profile.specs.Events.{History}
use Rattle.book.specs.Good.{IsGood}
use Rattle.book_slot.specs.Origins.{IsOf}
use Rattle.book_slot.specs.declared.view.Trace.{Trace}
use Rattle.book_slot.specs.Seen.{Begins, AllPast, ArePast, Begins, AllPast, ArePast}
use Rattle.book_slot.specs.Left.{AreMadeBy, AreMadeBy}

-- where both are of one opening, both begin one good history
abbrev pub BeginOne : History → History → Type 0
BeginOne one other = one.opening.period ≡ other.opening.period → (history : History) × IsGood history × Begins history one × Begins history other

abbrev pub AreOfOne : Option History → Option History → Type 0
AreOfOne None other = Unit {0}
AreOfOne (Some one) None = Unit {0}
AreOfOne (Some one) (Some other) = BeginOne one other

-- what becomes of a book: of each opening the history as far as it went, by its first period, and the last history
pub record Course : Type 0 where
  pub past : ℕ → History
  pub last : History

-- each of them is good, and of the book that opened first so; and the last history is that of its opening
pub record IsCourseOf (origin : Option History) (course : Course) : Type 0 where
  pub current : course.past course.last.opening.period ≡ course.last
  pub good : (period : ℕ) → IsOf origin (course.past period)

-- each history that was seen begins that of its opening, which is the last one or an earlier one
abbrev pub AllBegin : Course → List History → Type 0
AllBegin course xs = AllPast course.past course.last xs

-- the same of all that several seats have seen
abbrev pub EachBegins : Course → List Trace → Type 0
EachBegins course known = ArePast course.past course.last known

-- nobody but the places that left these traces has changed the book
abbrev pub IsMadeBy : Option History → Course → List Trace → Type 0
IsMadeBy origin course known = AreMadeBy origin course.past course.last known
