-- What is known at the end of a desk.
use Rattle.std.specs.Prelude.{◌≡◌, ℕ, ◌+◌, ◌-◌, List, [], ◌∷◌, map, sum, Option, Some, None}
use Rattle.std.specs.List.{AllByRecursion}
use Rattle.book_slot.specs.Origins.{IsOf}
use Rattle.service_profile.specs.Events.{History}
use Rattle.book_slot.specs.declared.view.Trace.{Trace}
use Rattle.book_slot.specs.Courses.{Course, IsCourseOf, AllBegin, IsMadeBy}
use Rattle.book_slot.specs.Views.{trace}
use Rattle.book_slot.specs.Left.{next_number}
use Rattle.slot_desk.specs.Seats.{SeatData}
use Rattle.slot_desk.specs.Shown.{seen_of}

-- all that a seat has seen, of each service
abbrev pub row_of : SeatData → List (List History)
row_of seat = map seen_of seat.views

-- what becomes of the services' books: all that was seen of each service begins the histories of its openings
abbrev pub RowBegins : List Course → List (List History) → Type 0
RowBegins [] rows = Unit {0}
RowBegins (c ∷ cs) [] = Unit {0}
RowBegins (c ∷ cs) (xs ∷ rows) = AllBegin c xs × RowBegins cs rows

abbrev pub SeatBegins : List Course → SeatData → Type 0
SeatBegins courses seat = RowBegins courses (row_of seat)

-- ---- what seats leave behind

-- what a seat leaves behind at each service, by its number
abbrev pub traces_row : SeatData → List Trace
traces_row seat = map (trace seat.number) seat.views

-- the first trace of each row: those of the first service
abbrev pub firsts : List (List Trace) → List Trace
firsts [] = []
firsts ([] ∷ rows) = firsts rows
firsts ((t ∷ ts) ∷ rows) = t ∷ firsts rows

-- what is behind the first of each row: the traces of the other services
abbrev pub behind : List (List Trace) → List (List Trace)
behind [] = []
behind ([] ∷ rows) = [] ∷ behind rows
behind ((t ∷ ts) ∷ rows) = ts ∷ behind rows

-- nobody but the seats that left these rows of traces has changed the books
abbrev pub CoursesAreMadeBy : List (Option History) → List Course → List (List Trace) → Type 0
CoursesAreMadeBy [] [] rows = Unit {0}
CoursesAreMadeBy [] (c ∷ cs) rows = ⊥
CoursesAreMadeBy (origin ∷ origins) [] rows = ⊥
CoursesAreMadeBy (origin ∷ origins) (c ∷ cs) rows = IsMadeBy origin c (firsts rows) × CoursesAreMadeBy origins cs (behind rows)

-- ---- books

-- each of the books is good, and of the one at its place that opened so
abbrev pub AreOf : List (Option History) → List History → Type 0
AreOf [] [] = Unit {0}
AreOf [] (b ∷ bs) = ⊥
AreOf (origin ∷ origins) [] = ⊥
AreOf (origin ∷ origins) (b ∷ bs) = IsOf origin b × AreOf origins bs

abbrev pub last_of : Course → History
last_of course = course.last

-- each is what becomes of the book at its place that opened so: the histories of its openings are good, and of that book
abbrev pub AreCourses : List (Option History) → List Course → Type 0
AreCourses [] [] = Unit {0}
AreCourses [] (c ∷ cs) = ⊥
AreCourses (origin ∷ origins) [] = ⊥
AreCourses (origin ∷ origins) (c ∷ cs) = IsCourseOf origin c × AreCourses origins cs

-- of each service there is one history of each opening, the last one that of its book, and all that any of the seats has seen of the service begins the history of its opening
pub record HaveCourses (origins : List (Option History)) (books : List History) (seats : List SeatData) : Type 0 where
  pub courses : List Course
  pub lasts : map last_of courses ≡ books
  pub of_books : AreCourses origins courses
  pub begun : AllByRecursion (SeatBegins courses) seats
  -- nobody but these seats has changed the books
  pub made : CoursesAreMadeBy origins courses (map traces_row seats)

-- the number of the last entry, 0 before the first; and that of a book as it opened
abbrev pub last_number : History → ℕ
last_number history = next_number history - 1

abbrev pub first_number : Option History → ℕ
first_number None = 0
first_number (Some history) = last_number history

-- the numbers of the books' last entries add up to those with which the books opened, and the counts of the seats: no entry
-- is there that no seat counts, and each that a seat counts was made
abbrev pub NumbersAgree : List (Option History) → List History → List SeatData → Type 0
NumbersAgree origins books seats =
    sum (map last_number books) ≡ sum (map first_number origins) + sum (map (λ seat. seat.count) seats)
