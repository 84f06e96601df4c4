-- How many entries a call makes, and all calls of some seats.
use Rattle.std.proofs.Common.{◌≡◌, ℕ, zero, suc, ◌+◌, ◌-◌, ◌≤◌, List, [], ◌∷◌, length, map, sum, refl, sym, ap, ◌∙◌, arith, Option, Some}
use Rattle.std.specs.List.{AllByRecursion}
use Rattle.std.proofs.lemmas.List.{length-map}
use Rattle.std.proofs.lemmas.List.Sums.{sum_by-cons}
use Rattle.book.proofs.Counting.{calls_counted}
use Rattle.book.proofs.Applying.{same_opening}
use Rattle.book.specs.Good.{IsGood}
use Rattle.service_profile.specs.Calls.{CallData, CallAnswer, IsCalled}
use Rattle.service_profile.specs.Events.{Opening, History}
use Rattle.book_slot.specs.declared.view.Trace.{Trace}
use Rattle.book_slot.specs.declared.view.View.{View}
use Rattle.book_slot.specs.Called.{Called, CalledAfterTries}
use Rattle.book.specs.Reopened.{IsOpeningAfter}
use Rattle.book_slot.proofs.Keeps.{last_good}
use Rattle.book_slot.proofs.Traces.{next_behind}
use Rattle.book_slot.specs.Courses.{Course, IsCourseOf, IsMadeBy}
use Rattle.book_slot.specs.Views.{trace}
use Rattle.book_slot.specs.Trying.{missing}
use Rattle.book_slot.specs.Left.{next_number, entries_of}
use Rattle.book.specs.Counts.{made_by}
use Rattle.slot_desk.specs.Closing.{AreCourses, CoursesAreMadeBy, NumbersAgree, traces_row, firsts, behind, last_of, last_number, first_number}
use Rattle.slot_desk.specs.Seats.{SeatData, entries_in, IsTallied}
use Rattle.slot_desk.specs.Sitting.{newcomer_of}

-- ---- one call

module _ (number : ℕ) (call : CallData) (given : CallAnswer) (v w : View) where
  pub tried_makes : Called (λ before after. IsCalled number before call given after) v w → w.entries ≡ v.entries + made_by call given
  tried_makes c =
      let e : w.entries ≡ v.entries + (next_number c.after - next_number c.before) = ap (λ (u : View). u.entries) c.view in
      let n = calls_counted number c.before call given c.after c.did in
      omega (arith, e, n)

  pub called_makes : CalledAfterTries (λ before after. IsCalled number before call given after) v w → w.entries ≡ v.entries + made_by call given
  called_makes (tries, c) =
      let e : w.entries ≡ v.entries + (next_number c.after - next_number c.before) = ap (λ (u : View). u.entries) c.view in
      let n = calls_counted number c.before call given c.after c.did in
      omega (arith, e, n)

pub missed_makes : (v w : View) → w ≡ missing v → w.entries ≡ v.entries + 0
missed_makes v w is = let e : w.entries ≡ v.entries = ap (λ (u : View). u.entries) is in omega (arith, e)

pub none_made : (number : ℕ) (origins : List (Option History)) → 0 ≡ entries_in (map (newcomer_of number) origins)
none_made number [] = refl
none_made number (origin ∷ origins) = let i = none_made number origins in omega (arith, i)

-- ---- all seats

sum_cons : (n : ℕ) (ns : List ℕ) → sum (n ∷ ns) ≡ n + sum ns
sum_cons n ns = sum_by-cons (λ x. x) n ns

row_makes : (number : ℕ) (views : List View) → entries_of (map (trace number) views) ≡ entries_in views
row_makes number [] = refl
row_makes number (v ∷ views) = ap (λ n. v.entries + n) (row_makes number views)

rows_make : (seats : List SeatData) → AllByRecursion IsTallied seats → sum (map entries_of (map traces_row seats)) ≡ sum (map (λ seat. seat.count) seats)
rows_make [] all = refl
rows_make (seat ∷ seats) all =
    let e : entries_of (traces_row seat) ≡ seat.count = row_makes seat.number seat.views ∙ sym all.0.counted in
    sum_cons (entries_of (traces_row seat)) (map entries_of (map traces_row seats)) ∙ ((λ i. e i + rows_make seats all.1 i) ∙ sym (sum_cons seat.count (map (λ s. s.count) seats)))

columns : (rows : List (List Trace)) → entries_of (firsts rows) + sum (map entries_of (behind rows)) ≡ sum (map entries_of rows)
columns [] = refl
columns ([] ∷ rows) = columns rows
columns ((t ∷ ts) ∷ rows) =
    let i = columns rows in
    let a : sum (map entries_of (behind ((t ∷ ts) ∷ rows))) ≡ entries_of ts + sum (map entries_of (behind rows)) = sum_cons (entries_of ts) (map entries_of (behind rows)) in
    let b : sum (map entries_of ((t ∷ ts) ∷ rows)) ≡ entries_of (t ∷ ts) + sum (map entries_of rows) = sum_cons (entries_of (t ∷ ts)) (map entries_of rows) in
    omega (arith, i, a, b)

abbrev Short : ℕ → List (List Trace) → Type 0
Short n rows = AllByRecursion (λ row. length row ≤ n) rows

short_behind : (n : ℕ) (rows : List (List Trace)) → Short (suc n) rows → Short n (behind rows)
short_behind n [] all = tt
short_behind n ([] ∷ rows) all = (omega arith, short_behind n rows all.1)
short_behind n ((t ∷ ts) ∷ rows) all = let less = all.0 in (omega (arith, less), short_behind n rows all.1)

no_rows : (rows : List (List Trace)) → Short 0 rows → sum (map entries_of rows) ≡ 0
no_rows [] all = refl
no_rows ([] ∷ rows) all = no_rows rows all.1
no_rows ((t ∷ ts) ∷ rows) all = let less = all.0 in absurd (omega (arith, less))

least_line : (h : History) → IsGood h → 1 ≤ h.opening.line
least_line h good = omega (arith, good.sound.opening.first_line, ap (λ (o : Opening). o.line) (same_opening h.opening h.lines h.rolled))

-- a book opened with a number
first_least : (first : Opening) (n : ℕ) (h : History) → IsOpeningAfter first n h.opening → IsGood h → 1 ≤ first.line
first_least first zero h is good = let e : h.opening.line ≡ first.line = ap (λ (o : Opening). o.line) is in let least = least_line h good in omega (arith, e, least)
first_least first (suc n) h (before, after, good_before, cut) good = first_least first n before after good_before

-- the last number goes on by what the places of a service have made
number_agrees : (origin : Option History) (c : Course) (traces : List Trace) → IsCourseOf origin c → IsMadeBy origin c traces → last_number c.last ≡ first_number origin + entries_of traces
number_agrees origin c traces is made =
    let of_ = last_good origin c is in
    let both : ◌≡◌ {A = Option History} (Some of_.first) (Some made.first) = sym of_.is_first ∙ made.is_first in
    let one : of_.first ≡ made.first = cc in
    let least = first_least of_.first.opening of_.cuts c.last of_.after_cuts of_.good in
    let line : of_.first.opening.line ≡ made.first.opening.line = ap (λ (h : History). h.opening.line) one in
    let first : first_number origin ≡ next_number made.first - 1 = ap first_number made.is_first in
    let here : next_number c.last ≡ next_number made.first + entries_of traces = made.entries in
    let next = next_behind made.first in
    omega (arith, least, line, first, here, next)

rows_agree : (origins : List (Option History)) (courses : List Course) (rows : List (List Trace)) → AreCourses origins courses → CoursesAreMadeBy origins courses rows → Short (length courses) rows → sum (map last_number (map last_of courses)) ≡ sum (map first_number origins) + sum (map entries_of rows)
rows_agree [] [] rows of_ made short = let e = no_rows rows short in omega (arith, e)
rows_agree [] (c ∷ cs) rows of_ made short = absurd made
rows_agree (origin ∷ origins) [] rows of_ made short = absurd made
rows_agree (origin ∷ origins) (c ∷ cs) rows of_ made short =
    let i = rows_agree origins cs (behind rows) of_.1 made.1 (short_behind (length cs) rows short) in
    let here = number_agrees origin c (firsts rows) of_.0 made.0 in
    let all = columns rows in
    let a : sum (map last_number (map last_of (c ∷ cs))) ≡ last_number c.last + sum (map last_number (map last_of cs)) = sum_cons (last_number c.last) (map last_number (map last_of cs)) in
    let b : sum (map first_number (origin ∷ origins)) ≡ first_number origin + sum (map first_number origins) = sum_cons (first_number origin) (map first_number origins) in
    omega (arith, i, here, all, a, b)

short_rows : (many : ℕ) (seats : List SeatData) → AllByRecursion (λ seat. length seat.tables ≡ many) seats → AllByRecursion IsTallied seats → Short many (map traces_row seats)
short_rows many [] same all = tt
short_rows many (seat ∷ seats) same all =
    let long : length (traces_row seat) ≡ length seat.views = length-map seat.views (trace seat.number) in
    let viewed = all.0.each_viewed in
    let here = same.0 in
    (omega (arith, long, viewed, here), short_rows many seats same.1 all.1)

pub numbers_agree : (origins : List (Option History)) (courses : List Course) (seats : List SeatData) → AreCourses origins courses → CoursesAreMadeBy origins courses (map traces_row seats) → AllByRecursion (λ seat. length seat.tables ≡ length courses) seats → AllByRecursion IsTallied seats → NumbersAgree origins (map last_of courses) seats
numbers_agree origins courses seats of_ made same all =
    rows_agree origins courses (map traces_row seats) of_ made (short_rows (length courses) seats same all) ∙ ap (λ n. sum (map first_number origins) + n) (rows_make seats all)

pub all_weaker : {A : Type 0} (P Q : A → Type 0) (xs : List A) → ((x : A) → P x → Q x) → AllByRecursion P xs → AllByRecursion Q xs
all_weaker P Q [] each all = tt
all_weaker P Q (x ∷ xs) each all = (each x all.0, all_weaker P Q xs each all.1)
