-- What is known at the end.
use Rattle.std.proofs.Common.{◌≡◌, ℕ, zero, suc, List, [], ◌∷◌, ◌++◌, length, map, replicate, append-nil, append_assoc, refl, sym, ap, ◌∙◌, subst}
use Rattle.std.specs.List.{AllByRecursion}
use Rattle.atomic_table.specs.Seated.{TableId}
use Rattle.book_slot.specs.declared.view.Trace.{Trace}
use Rattle.book_slot.specs.declared.view.View.{View}
use Rattle.book_slot.specs.Courses.{Course, AllBegin, EachBegins, IsMadeBy}
use Rattle.book_slot.specs.Views.{trace}
use Rattle.book_slot.proofs.Keeps.{last_good}
use Rattle.slot_desk.specs.Closing.{traces_row, firsts, behind, CoursesAreMadeBy, RowBegins, SeatBegins, AreOf, AreCourses, last_of}
use Rattle.slot_desk.specs.Gathering.{added, all_added, Finished}
use Rattle.slot_desk.specs.Seats.{SeatData}
use Rattle.slot_desk.specs.Slots.{trace_at, number_at, view_at, known_of, origin_of}
use Rattle.slot_desk.specs.Shown.{seen_of}
use Rattle.slot_desk.proofs.Counting.{head_is, tail_is, no_cons}
use Rattle.book_slot.specs.Places.{SlotData, PlaceData}

-- what a seat leaves behind is what its places do
pub trace_row : (places : List PlaceData) (n number : ℕ) → map number_at places ≡ replicate n number → map trace_at places ≡ map (trace number) (map view_at places)
trace_row [] n number all = refl
trace_row (p ∷ places) zero number all = absurd (no_cons _ _ (sym all))
trace_row (p ∷ places) (suc n) number all =
    let own : p.number ≡ number = head_is _ _ (map number_at places) (replicate n number) all in
    let others = trace_row places n number (tail_is _ _ (map number_at places) (replicate n number) all) in
    λ i. trace (own i) p.view ∷ others i

pub seats_of_moved : (tables tables' : List TableId) (seats : List SeatData) → tables' ≡ tables → AllByRecursion (λ seat. seat.tables ≡ tables) seats → AllByRecursion (λ seat. seat.tables ≡ tables') seats
seats_of_moved tables tables' seats e h = subst (λ ts. AllByRecursion (λ (seat : SeatData). seat.tables ≡ ts) seats) (sym e) h

-- ---- rows, by services

added_none : (ks : List (List Trace)) → added ks [] ≡ ks
added_none [] = refl
added_none (k ∷ ks) = refl

-- what is known of the first service, and of the others
all_first : (k : List Trace) (ks rows : List (List Trace)) → all_added (k ∷ ks) rows ≡ (k ++ firsts rows) ∷ all_added ks (behind rows)
all_first k ks [] = ap (λ l. l ∷ ks) (sym (append-nil k))
all_first k ks ([] ∷ rows) = all_first k ks rows ∙ ap (λ l. (k ++ firsts rows) ∷ all_added l (behind rows)) (sym (added_none ks))
all_first k ks ((t ∷ ts) ∷ rows) = all_first (k ++ t ∷ []) (added ks ts) rows ∙ ap (λ l. l ∷ all_added (added ks ts) (behind rows)) (append_assoc k (t ∷ []) (firsts rows))

none_added : (rows : List (List Trace)) → all_added [] rows ≡ []
none_added [] = refl
none_added (row ∷ rows) = none_added rows

-- ---- the books

-- what a row says of each service
abbrev TracesBegin : List Course → List Trace → Type 0
TracesBegin [] row = Unit {0}
TracesBegin (c ∷ cs) [] = Unit {0}
TracesBegin (c ∷ cs) (t ∷ ts) = AllBegin c t.seen × TracesBegin cs ts

rows_begin : (c : Course) (cs : List Course) (rows : List (List Trace)) → EachBegins c (firsts rows) → AllByRecursion (TracesBegin cs) (behind rows) → AllByRecursion (TracesBegin (c ∷ cs)) rows
rows_begin c cs [] all more = tt
rows_begin c cs ([] ∷ rows) all more = (tt, rows_begin c cs rows all more.1)
rows_begin c cs ((t ∷ ts) ∷ rows) all more = ((all.0, more.0), rows_begin c cs rows all.1 more.1)

none_begin : (rows : List (List Trace)) → AllByRecursion (TracesBegin []) rows
none_begin [] = tt
none_begin (row ∷ rows) = (tt, none_begin rows)

module _ (slot : SlotData) (slots : List SlotData) (many : ℕ) (rows : List (List Trace)) (known : map known_of (slot ∷ slots) ≡ all_added (replicate (suc many) []) rows) where
  first_known : slot.known ≡ firsts rows
  first_known = head_is _ _ (map known_of slots) (all_added (replicate many []) (behind rows)) (known ∙ all_first [] (replicate many []) rows)

  others_known : map known_of slots ≡ all_added (replicate many []) (behind rows)
  others_known = tail_is _ _ (map known_of slots) (all_added (replicate many []) (behind rows)) (known ∙ all_first [] (replicate many []) rows)

all_begin : (courses : List Course) (slots : List SlotData) (many : ℕ) (rows : List (List Trace)) → map known_of slots ≡ all_added (replicate many []) rows → Finished courses slots → AllByRecursion (TracesBegin courses) rows
all_begin [] slots many rows known f = none_begin rows
all_begin (c ∷ cs) [] many rows known f = absurd f
all_begin (c ∷ cs) (slot ∷ slots) zero rows known f = absurd (no_cons _ _ (sym (known ∙ none_added rows)))
all_begin (c ∷ cs) (slot ∷ slots) (suc many) rows known f =
    rows_begin c cs rows (subst (EachBegins c) (first_known slot slots many rows known) f.1) (all_begin cs slots many (behind rows) (others_known slot slots many rows known) f.3)

pub all_made : (courses : List Course) (slots : List SlotData) (many : ℕ) (rows : List (List Trace)) → map known_of slots ≡ all_added (replicate many []) rows → Finished courses slots → CoursesAreMadeBy (map origin_of slots) courses rows
all_made [] [] many rows known f = tt
all_made [] (slot ∷ slots) many rows known f = absurd f
all_made (c ∷ cs) [] many rows known f = absurd f
all_made (c ∷ cs) (slot ∷ slots) zero rows known f = absurd (no_cons _ _ (sym (known ∙ none_added rows)))
all_made (c ∷ cs) (slot ∷ slots) (suc many) rows known f =
    (subst (IsMadeBy slot.origin c) (first_known slot slots many rows known) f.2, all_made cs slots many (behind rows) (others_known slot slots many rows known) f.3)

row_begins : (courses : List Course) (number : ℕ) (views : List View) → TracesBegin courses (map (trace number) views) → RowBegins courses (map seen_of views)
row_begins [] number views h = tt
row_begins (c ∷ cs) number [] h = tt
row_begins (c ∷ cs) number (v ∷ views) h = (h.0, row_begins cs number views h.1)

each_begins : (courses : List Course) (seats : List SeatData) → AllByRecursion (TracesBegin courses) (map traces_row seats) → AllByRecursion (SeatBegins courses) seats
each_begins courses [] h = tt
each_begins courses (seat ∷ seats) h = (row_begins courses seat.number seat.views h.0, each_begins courses seats h.1)

pub seats_begin : (courses : List Course) (slots : List SlotData) (many : ℕ) (seats : List SeatData) → map known_of slots ≡ all_added (replicate many []) (map traces_row seats) → Finished courses slots → AllByRecursion (SeatBegins courses) seats
seats_begin courses slots many seats known f = each_begins courses seats (all_begin courses slots many (map traces_row seats) known f)

pub courses_of : (courses : List Course) (slots : List SlotData) → Finished courses slots → AreCourses (map origin_of slots) courses
courses_of [] [] f = tt
courses_of [] (slot ∷ slots) f = absurd f
courses_of (c ∷ cs) [] f = absurd f
courses_of (c ∷ cs) (slot ∷ slots) f = (f.0, courses_of cs slots f.3)

pub all_of : (courses : List Course) (slots : List SlotData) → Finished courses slots → AreOf (map origin_of slots) (map last_of courses)
all_of [] [] f = tt
all_of [] (slot ∷ slots) f = absurd f
all_of (c ∷ cs) [] f = absurd f
all_of (c ∷ cs) (slot ∷ slots) f = (last_good slot.origin c f.0, all_of cs slots f.3)

pub as_many_books : (courses : List Course) (slots : List SlotData) → Finished courses slots → length (map last_of courses) ≡ length slots
as_many_books [] [] f = refl
as_many_books [] (slot ∷ slots) f = absurd f
as_many_books (c ∷ cs) [] f = absurd f
as_many_books (c ∷ cs) (slot ∷ slots) f = ap suc (as_many_books cs slots f.3)
