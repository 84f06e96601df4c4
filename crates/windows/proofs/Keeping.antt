-- What a window of some seconds keeps, with one note more.
use Rattle.std.proofs.Common.{◌≡◌, ℕ, ◌+◌, ◌-◌, ◌/◌, ◌^◌, ◌≤◌, nat_lt, Bool, true, false, cond, List, [], ◌∷◌, ◌++◌, length, arith, refl, ap, sym, subst, ◌∙◌, append-nil, length-append}
use Rattle.std.specs.List.{filter, AllByRecursion}
use Rattle.std.proofs.lemmas.Bool.{ltb-true, lt-ltb}
use Rattle.std.proofs.lemmas.List.Elements.{filter-append}
use Rattle.service_profile.specs.declared.notes.Note.{Note}
use Rattle.service_profile.specs.declared.notes.Totals.{Totals}
use Rattle.service_profile.specs.Windows.{second_of, is_recent, totals_of}
use Rattle.service_profile.specs.RunningTotals.{AreTotals}
use Rattle.windows.specs.declared.buckets.Bucket.{Bucket}
use Rattle.windows.specs.Held.{HeldBuckets}
use Rattle.windows.specs.Kept.{is_in_window, KeepsBuckets}
use Rattle.windows.specs.Notes.{recent, AreNotAfter}
use Rattle.windows.specs.Rings.{left, newest, older, with_totals, totals_of_bucket, AreInOrder, IsCounted}
use Rattle.windows.specs.Sums.{plus, no_totals, one_note, sum_of}
use Rattle.windows.proofs.Adding.{sum_cons, plus_counted, one_counted, plus_nothing, plus_assoc, sum_push, part_fits, one_more_fits, totals_are_sums}
use Rattle.windows.proofs.Fallen.{left_part}
use Rattle.windows.proofs.Lists.{all_push, all_front, all_last, all_filter, filter_narrower}
use Rattle.windows.proofs.Noted.{noted, noted_sum}
use Rattle.windows.proofs.Order.{Opens, at_last, anew, opens, left_in_window}

-- ---- sums of what passes a test

sum_kept_push : {X : Type 0} (f : X → Totals) (test : X → Bool) (xs : List X) (x : X) → sum_of f (filter test (xs ++ x ∷ [])) ≡ plus (sum_of f (filter test xs)) (cond (test x) (f x) no_totals)
sum_kept_push f test xs x = ap (sum_of f) (filter-append test xs (x ∷ [])) ∙ by_test (test x)
  where
    by_test : (b : Bool) → sum_of f (filter test xs ++ cond b (x ∷ []) []) ≡ plus (sum_of f (filter test xs)) (cond b (f x) no_totals)
    by_test true = sum_push f (filter test xs) x
    by_test false = ap (sum_of f) (append-nil (filter test xs)) ∙ sym (plus_nothing (sum_of f (filter test xs)))

nothing_either_way : (b : Bool) (t : Totals) → plus t (cond b no_totals no_totals) ≡ t
nothing_either_way true t = plus_nothing t
nothing_either_way false t = plus_nothing t

kept_reopened : (test : Bucket → Bool) (second : ℕ) (xs : List Bucket) (bucket : Bucket) (front : List Bucket) → Opens second xs bucket front
    → sum_of totals_of_bucket (filter test (front ++ bucket ∷ [])) ≡ sum_of totals_of_bucket (filter test xs)
kept_reopened test second xs _ _ (at_last bucket front whole late) = ap (λ (ys : List Bucket). sum_of totals_of_bucket (filter test ys)) (sym whole)
kept_reopened test second xs _ _ (anew later) =
    sum_kept_push totals_of_bucket test xs (record { second = second; totals = no_totals })
    ∙ nothing_either_way (test (record { second = second; totals = no_totals })) (sum_of totals_of_bucket (filter test xs))

split_more : (b : Bool) (t part more : Totals) → plus t (cond b (plus part more) no_totals) ≡ plus (plus t (cond b part no_totals)) (cond b more no_totals)
split_more true t part more = sym (plus_assoc t part more)
split_more false t part more = sym (plus_nothing (plus t no_totals))

-- one note more, in a list of buckets of which some count
kept_noted : (size now second : ℕ) (more : Totals) (xs : List Bucket)
    → sum_of totals_of_bucket (filter (is_in_window size now) (noted second more xs)) ≡ plus (sum_of totals_of_bucket (filter (is_in_window size now) xs)) (cond (is_in_window size now (newest second xs)) more no_totals)
kept_noted size now second more xs =
    let test : Bucket → Bool = is_in_window size now in
    let bucket : Bucket = newest second xs in
    let front : List Bucket = older second xs in
    sum_kept_push totals_of_bucket test front (with_totals bucket more)
    ∙ split_more (test bucket) (sum_of totals_of_bucket (filter test front)) bucket.totals more
    ∙ ap (λ (t : Totals). plus t (cond (test bucket) more no_totals)) (sym (sum_kept_push totals_of_bucket test front bucket) ∙ kept_reopened test second xs bucket front (opens second xs))

-- one note more in a list of which some count
pub totals_with_note : (size now : ℕ) (notes : List Note) (note : Note)
    → totals_of (recent size now (notes ++ note ∷ [])) ≡ plus (totals_of (recent size now notes)) (cond (is_recent size now note) (one_note note.failed note.slow) no_totals)
totals_with_note size now notes note =
    totals_are_sums (recent size now (notes ++ note ∷ []))
    ∙ sum_kept_push (λ (n : Note). one_note n.failed n.slow) (is_recent size now) notes note
    ∙ ap (λ (t : Totals). plus t (cond (is_recent size now note) (one_note note.failed note.slow) no_totals)) (sym (totals_are_sums (recent size now notes)))

-- ---- seconds

newest_second_by : (second : ℕ) (xs : List Bucket) (bucket : Bucket) (front : List Bucket) → AllByRecursion (λ x. x.second ≤ second) xs → Opens second xs bucket front → bucket.second ≡ second
newest_second_by second xs _ _ within (at_last bucket front whole late) =
    let early : bucket.second ≤ second = all_last (λ (x : Bucket). x.second ≤ second) front bucket (subst (AllByRecursion (λ (x : Bucket). x.second ≤ second)) whole within) in
    omega (arith, early, late)
newest_second_by second xs _ _ within (anew later) = refl

older_by : (P : Bucket → Type 0) (second : ℕ) (xs : List Bucket) (bucket : Bucket) (front : List Bucket) → AllByRecursion P xs → Opens second xs bucket front → AllByRecursion P front
older_by P second xs _ _ all (at_last bucket front whole late) = all_front P front (bucket ∷ []) (subst (AllByRecursion P) whole all)
older_by P second xs _ _ all (anew later) = all

-- what counts later counts now
counts_before : (size moment now : ℕ) → moment ≤ now → (x : Bucket) → is_in_window size now x ≡ true → is_in_window size moment x ≡ true
counts_before size moment now h x e = lt-ltb (moment / 1000) (x.second + size) (omega (arith, h, ltb-true (now / 1000) (x.second + size) e))

-- ---- the relation

module _ (held : HeldBuckets) (notes : List Note) (note : Note) (some : 1 ≤ held.size) (order : AreInOrder held.size held.buckets) (kept : KeepsBuckets held notes) (after : AreNotAfter note.moment notes) where
  staying_is : left held.size (second_of note.moment) held.buckets ≡ filter (is_in_window held.size note.moment) held.buckets
  staying_is = left_in_window held.size note.moment held.buckets some order

  staying_early : (P : Bucket → Type 0) → AllByRecursion P held.buckets → AllByRecursion P (left held.size (second_of note.moment) held.buckets)
  staying_early P all = subst (AllByRecursion P) (sym staying_is) (all_filter P (is_in_window held.size note.moment) held.buckets all)

  newest_second : (newest (second_of note.moment) (left held.size (second_of note.moment) held.buckets)).second ≡ second_of note.moment
  newest_second =
      let xs : List Bucket = left held.size (second_of note.moment) held.buckets in
      newest_second_by (second_of note.moment) xs (newest (second_of note.moment) xs) (older (second_of note.moment) xs)
      (staying_early (λ (x : Bucket). x.second ≤ second_of note.moment) (kept.not_after note.moment after)) (opens (second_of note.moment) xs)

  not_after : (now : ℕ) → AreNotAfter now (notes ++ note ∷ []) → AllByRecursion (λ bucket. bucket.second ≤ second_of now) (noted (second_of note.moment) (one_note note.failed note.slow) (left held.size (second_of note.moment) held.buckets))
  not_after now all =
      let xs : List Bucket = left held.size (second_of note.moment) held.buckets in
      let before : AreNotAfter now notes = all_front (λ (n : Note). n.moment ≤ now) notes (note ∷ []) all in
      let here : note.moment ≤ now = all_last (λ (n : Note). n.moment ≤ now) notes note all in
      let P : Bucket → Type 0 = λ bucket. bucket.second ≤ second_of now in
      all_push P (older (second_of note.moment) xs) (with_totals (newest (second_of note.moment) xs) (one_note note.failed note.slow))
      (older_by P (second_of note.moment) xs (newest (second_of note.moment) xs) (older (second_of note.moment) xs) (staying_early P (kept.not_after now before)) (opens (second_of note.moment) xs))
      (omega (arith, here, newest_second))

  exact : (now : ℕ) → AreNotAfter now (notes ++ note ∷ [])
      → sum_of totals_of_bucket (filter (is_in_window held.size now) (noted (second_of note.moment) (one_note note.failed note.slow) (left held.size (second_of note.moment) held.buckets))) ≡ totals_of (recent held.size now (notes ++ note ∷ []))
  exact now all =
      let xs : List Bucket = left held.size (second_of note.moment) held.buckets in
      let before : AreNotAfter now notes = all_front (λ (n : Note). n.moment ≤ now) notes (note ∷ []) all in
      let here : note.moment ≤ now = all_last (λ (n : Note). n.moment ≤ now) notes note all in
      let more : Totals = one_note note.failed note.slow in
      let same : filter (is_in_window held.size now) xs ≡ filter (is_in_window held.size now) held.buckets =
      ap (filter (is_in_window held.size now)) staying_is ∙ filter_narrower (is_in_window held.size note.moment) (is_in_window held.size now) (counts_before held.size note.moment now here) held.buckets in
      kept_noted held.size now (second_of note.moment) more xs
      ∙ ap (λ (second : ℕ). plus (sum_of totals_of_bucket (filter (is_in_window held.size now) xs)) (cond (nat_lt (second_of now) (second + held.size)) more no_totals)) newest_second
      ∙ ap (λ (t : Totals). plus t (cond (is_recent held.size now note) more no_totals)) (ap (sum_of totals_of_bucket) same ∙ kept.exact now before)
      ∙ sym (totals_with_note held.size now notes note)

  few : AreTotals (length (notes ++ note ∷ [])) (sum_of totals_of_bucket (noted (second_of note.moment) (one_note note.failed note.slow) (left held.size (second_of note.moment) held.buckets)))
  few =
      let xs : List Bucket = left held.size (second_of note.moment) held.buckets in
      rw (noted_sum (second_of note.moment) (one_note note.failed note.slow) xs, length-append notes (note ∷ []))
      (part_fits (length notes + 1) (sum_of totals_of_bucket xs) (sum_of totals_of_bucket held.buckets) (one_note note.failed note.slow) (left_part held.size (second_of note.moment) held.buckets)
      (one_more_fits (length notes) (sum_of totals_of_bucket held.buckets) note.failed note.slow kept.few))

  -- the ring with one note more keeps the notes with one more
  pub keeps_noted : KeepsBuckets (record { size = held.size; buckets = noted (second_of note.moment) (one_note note.failed note.slow) (left held.size (second_of note.moment) held.buckets) }) (notes ++ note ∷ [])
  keeps_noted = record { not_after = not_after; exact = exact; few = few }

-- ---- room for one more

pub room_fits : (size second : ℕ) (buckets : List Bucket) (failed slow : Bool) → AreTotals (2 ^ 64 - 9) (sum_of totals_of_bucket buckets) → AreTotals (2 ^ 64 - 1) (plus (sum_of totals_of_bucket (left size second buckets)) (one_note failed slow))
room_fits size second buckets failed slow room =
    part_fits (2 ^ 64 - 1) (sum_of totals_of_bucket (left size second buckets)) (sum_of totals_of_bucket buckets) (one_note failed slow) (left_part size second buckets)
    (let one : AreTotals (2 ^ 64 - 9 + 1) (plus (sum_of totals_of_bucket buckets) (one_note failed slow)) = one_more_fits (2 ^ 64 - 9) (sum_of totals_of_bucket buckets) failed slow room in
    record { total = omega (arith, one.total); failed = omega (arith, one.failed); slow = omega (arith, one.slow) })

-- a note of this moment counts
pub totals_with_newest : (size moment : ℕ) (notes : List Note) (note : Note) → 1 ≤ size → note.moment ≡ moment → totals_of (recent size moment (notes ++ note ∷ [])) ≡ plus (totals_of (recent size moment notes)) (one_note note.failed note.slow)
totals_with_newest size moment notes note some same =
    let counts : is_recent size moment note ≡ true = lt-ltb (moment / 1000) (note.moment / 1000 + size) (omega (arith, some, same)) in
    totals_with_note size moment notes note ∙ ap (λ (b : Bool). plus (totals_of (recent size moment notes)) (cond b (one_note note.failed note.slow) no_totals)) counts

-- ---- no count is greater than the total

pub sum_counted : (xs : List Bucket) → AllByRecursion IsCounted xs → AreTotals (sum_of totals_of_bucket xs).total (sum_of totals_of_bucket xs)
sum_counted [] all = record { total = omega arith; failed = omega arith; slow = omega arith }
sum_counted (x ∷ xs) all = subst (λ (t : Totals). AreTotals t.total t) (sym (sum_cons totals_of_bucket x xs)) (plus_counted x.totals (sum_of totals_of_bucket xs) all.0 (sum_counted xs all.1))

newest_counted : (second : ℕ) (xs : List Bucket) (bucket : Bucket) (front : List Bucket) → AllByRecursion IsCounted xs → Opens second xs bucket front → IsCounted bucket
newest_counted second xs _ _ all (at_last bucket front whole late) = all_last IsCounted front bucket (subst (AllByRecursion IsCounted) whole all)
newest_counted second xs _ _ all (anew later) = record { total = omega arith; failed = omega arith; slow = omega arith }

pub noted_counted : (second : ℕ) (failed slow : Bool) (xs : List Bucket) → AllByRecursion IsCounted xs → AllByRecursion IsCounted (noted second (one_note failed slow) xs)
noted_counted second failed slow xs all =
    all_push IsCounted (older second xs) (with_totals (newest second xs) (one_note failed slow))
    (older_by IsCounted second xs (newest second xs) (older second xs) all (opens second xs))
    (plus_counted (newest second xs).totals (one_note failed slow) (newest_counted second xs (newest second xs) (older second xs) all (opens second xs)) (one_counted failed slow))
