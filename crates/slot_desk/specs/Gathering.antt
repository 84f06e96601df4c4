-- What is known while seats are taken back.
use Rattle.std.specs.Prelude.{List, [], ◌∷◌, ◌++◌}
use Rattle.book_slot.specs.Places.{SlotData}
use Rattle.book_slot.specs.declared.view.Trace.{Trace}
use Rattle.book_slot.specs.Courses.{Course, IsCourseOf, EachBegins, IsMadeBy}

-- what is known of each service, and what one seat more left behind there
abbrev pub added : List (List Trace) → List Trace → List (List Trace)
added [] xs = []
added (k ∷ ks) [] = k ∷ ks
added (k ∷ ks) (x ∷ xs) = (k ++ x ∷ []) ∷ added ks xs

-- the same of several rows, one after another
abbrev pub all_added : List (List Trace) → List (List Trace) → List (List Trace)
all_added ks [] = ks
all_added ks (row ∷ rows) = all_added (added ks row) rows

-- each is what becomes of the book that was laid into its slot; all that is known of its service begins the histories of its
-- openings, and nobody else has changed the book
abbrev pub Finished : List Course → List SlotData → Type 0
Finished [] [] = Unit {0}
Finished [] (slot ∷ slots) = ⊥
Finished (c ∷ cs) [] = ⊥
Finished (c ∷ cs) (slot ∷ slots) = IsCourseOf slot.origin c × EachBegins c slot.known × IsMadeBy slot.origin c slot.known × Finished cs slots
