-- A ring of buckets with one note more.
use Rattle.std.proofs.Common.{◌≡◌, ℕ, ◌+◌, ◌/◌, ◌≤◌, ◌<◌, true, List, [], ◌∷◌, ◌++◌, ap, sym, subst, ◌∙◌}
use Rattle.std.specs.List.{AllByRecursion}
use Rattle.std.proofs.lemmas.Bool.{ltb-true}
use Rattle.circular_buffer.specs.Buffer.{keep_last}
use Rattle.service_profile.specs.declared.notes.Totals.{Totals}
use Rattle.service_profile.specs.Windows.{second_of}
use Rattle.windows.specs.declared.buckets.Bucket.{Bucket}
use Rattle.windows.specs.Kept.{is_in_window}
use Rattle.windows.specs.Rings.{left, newest, older, with_totals, totals_of_bucket, AreInOrder}
use Rattle.windows.specs.Sums.{plus, no_totals, sum_of, IsPart}
use Rattle.windows.proofs.Adding.{plus_nothing, plus_assoc, sum_push, last_part}
use Rattle.windows.proofs.Lists.{all_both, filter_passes, all_last_kept}
use Rattle.windows.proofs.Order.{Before, Opens, at_last, anew, opens, earlier, left_in_window, left_in_order, front_in_order, all_before_last, push_in_order, few_in_order}

-- ---- sums

reopened_by : (second : ℕ) (xs : List Bucket) (bucket : Bucket) (front : List Bucket) → Opens second xs bucket front → sum_of totals_of_bucket (front ++ bucket ∷ []) ≡ sum_of totals_of_bucket xs
reopened_by second xs _ _ (at_last bucket front whole late) = ap (sum_of totals_of_bucket) (sym whole)
reopened_by second xs _ _ (anew later) = sum_push totals_of_bucket xs (record { second = second; totals = no_totals }) ∙ plus_nothing (sum_of totals_of_bucket xs)

-- the bucket that takes a note is a part of the whole
pub newest_is_part : (second : ℕ) (xs : List Bucket) → IsPart (newest second xs).totals (sum_of totals_of_bucket xs)
newest_is_part second xs =
    let same = reopened_by second xs (newest second xs) (older second xs) (opens second xs) in
    rw (← same, sum_push totals_of_bucket (older second xs) (newest second xs)) (last_part (sum_of totals_of_bucket (older second xs)) (newest second xs).totals)

-- the list with one note more in its bucket
abbrev pub noted : ℕ → Totals → List Bucket → List Bucket
noted second more xs = older second xs ++ with_totals (newest second xs) more ∷ []

with_more : (front : List Bucket) (bucket : Bucket) (more : Totals) → sum_of totals_of_bucket (front ++ with_totals bucket more ∷ []) ≡ plus (sum_of totals_of_bucket (front ++ bucket ∷ [])) more
with_more front bucket more =
    sum_push totals_of_bucket front (with_totals bucket more)
    ∙ sym (plus_assoc (sum_of totals_of_bucket front) bucket.totals more)
    ∙ ap (λ (t : Totals). plus t more) (sym (sum_push totals_of_bucket front bucket))

pub noted_sum : (second : ℕ) (more : Totals) (xs : List Bucket) → sum_of totals_of_bucket (noted second more xs) ≡ plus (sum_of totals_of_bucket xs) more
noted_sum second more xs =
    with_more (older second xs) (newest second xs) more
    ∙ ap (λ (t : Totals). plus t more) (reopened_by second xs (newest second xs) (older second xs) (opens second xs))

-- ---- order

noted_order_by : (size moment : ℕ) (more : Totals) (xs : List Bucket) (bucket : Bucket) (front : List Bucket) → AreInOrder size xs → AllByRecursion (λ x. is_in_window size moment x ≡ true) xs
    → Opens (second_of moment) xs bucket front → AreInOrder size (front ++ with_totals bucket more ∷ [])
noted_order_by size moment more xs _ _ order inside (at_last bucket front whole late) =
    let ordered : AreInOrder size (front ++ bucket ∷ []) = subst (AreInOrder size) whole order in
    push_in_order size front (with_totals bucket more) (front_in_order size front (bucket ∷ []) ordered) (all_before_last size front bucket ordered)
noted_order_by size moment more xs _ _ order inside (anew later) =
    push_in_order size xs (record { second = second_of moment; totals = plus no_totals more }) order
    (all_both (λ (x : Bucket). x.second < moment / 1000) (λ (x : Bucket). is_in_window size moment x ≡ true) (Before size (moment / 1000))
    (λ x before here. record { after = before; soon = ltb-true (moment / 1000) (x.second + size) here }) xs (earlier size (moment / 1000) xs order later) inside)

-- with one note more what is left is in order
pub noted_in_order : (size moment : ℕ) (more : Totals) (buckets : List Bucket) → 1 ≤ size → AreInOrder size buckets → AreInOrder size (noted (second_of moment) more (left size (second_of moment) buckets))
noted_in_order size moment more buckets some order =
    let xs : List Bucket = left size (second_of moment) buckets in
    let inside : AllByRecursion (λ x. is_in_window size moment x ≡ true) xs =
    subst (AllByRecursion (λ (x : Bucket). is_in_window size moment x ≡ true)) (sym (left_in_window size moment buckets some order)) (filter_passes (is_in_window size moment) buckets) in
    noted_order_by size moment more xs (newest (second_of moment) xs) (older (second_of moment) xs) (left_in_order size (second_of moment) buckets order) inside (opens (second_of moment) xs)

-- so no bucket leaves the ring
pub noted_whole : (size moment : ℕ) (more : Totals) (buckets : List Bucket) → 1 ≤ size → AreInOrder size buckets
    → keep_last size (noted (second_of moment) more (left size (second_of moment) buckets)) ≡ noted (second_of moment) more (left size (second_of moment) buckets)
noted_whole size moment more buckets some order =
    all_last_kept size _ (few_in_order size _ some (noted_in_order size moment more buckets some order))
