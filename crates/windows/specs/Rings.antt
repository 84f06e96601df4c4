-- What the rings of a window hold, and how: outcomes with their totals, and buckets in the order of their seconds.
use Rattle.std.specs.Prelude.{◌≡◌, ℕ, ◌+◌, ◌-◌, ◌^◌, ◌<◌, ◌≤◌, nat_le, ◌==◌, Bool, false, if◌then◌else◌, List, [], ◌∷◌, length, take, slice_get, Option, Some, None}
use Rattle.std.specs.List.{AllByRecursion}
use Rattle.circular_buffer.specs.Buffer.{Buffer, last_item}
use Rattle.service_profile.specs.declared.notes.Totals.{Totals}
use Rattle.service_profile.specs.RunningTotals.{AreTotals}
use Rattle.windows.specs.declared.buckets.Bucket.{Bucket}
use Rattle.windows.specs.declared.outcomes.Outcome.{Outcome}
use Rattle.windows.specs.Sums.{plus, no_totals, one_note, sum_of}

abbrev pub totals_of_outcome : Outcome → Totals
totals_of_outcome outcome = one_note outcome.failed outcome.slow

-- the element that leaves a ring of a capacity once there is one more
abbrev pub leaving : {X : Type 0} → ℕ → List X → Option X
leaving capacity xs = if length xs == capacity then slice_get xs 0 else None

-- a ring of outcomes, with their totals
pub record IsOutcomeRing (size : ℕ) (ring : Buffer Outcome) (totals : Totals) : Type 0 where
  pub some : 1 ≤ size
  pub few : size < 2 ^ 32
  pub capacity : ring.capacity ≡ size
  pub fits : length ring.items ≤ size
  pub summed : totals ≡ sum_of totals_of_outcome ring.items

-- ---- buckets

abbrev pub totals_of_bucket : Bucket → Totals
totals_of_bucket bucket = bucket.totals

-- whether a bucket's second lies so many seconds back, or more
abbrev pub has_fallen : ℕ → ℕ → Bucket → Bool
has_fallen size second bucket = nat_le size (second - bucket.second)

-- the bucket where it has fallen out of the window
abbrev pub if_fallen : ℕ → ℕ → Option Bucket → Option Bucket
if_fallen size second None = None
if_fallen size second (Some bucket) = if has_fallen size second bucket then Some bucket else None

-- the buckets from the first on that has not fallen out
abbrev pub left : ℕ → ℕ → List Bucket → List Bucket
left size second [] = []
left size second (bucket ∷ buckets) = if has_fallen size second bucket then left size second buckets else bucket ∷ buckets

-- whether a bucket takes a note of a second
abbrev pub takes_second : ℕ → Option Bucket → Bool
takes_second second None = false
takes_second second (Some bucket) = nat_le second bucket.second

-- the bucket that takes a note of a second: the newest one, where it is of this second or a later one, else an empty one
abbrev pub newest_or_empty : ℕ → Option Bucket → Bucket
newest_or_empty second None = record { second = second; totals = no_totals }
newest_or_empty second (Some bucket) = if nat_le second bucket.second then bucket else record { second = second; totals = no_totals }

abbrev pub newest : ℕ → List Bucket → Bucket
newest second buckets = newest_or_empty second (last_item buckets)

-- the buckets before that one
abbrev pub older : ℕ → List Bucket → List Bucket
older second buckets = if takes_second second (last_item buckets) then take (length buckets - 1) buckets else buckets

abbrev pub with_totals : Bucket → Totals → Bucket
with_totals bucket more = record { second = bucket.second; totals = plus bucket.totals more }

-- a second that is later than a bucket's, and at which the bucket is in the window
pub record IsSoonAfter (size : ℕ) (bucket : Bucket) (second : ℕ) : Type 0 where
  pub after : bucket.second < second
  pub soon : second < bucket.second + size

-- the seconds go up, and each lies in the windows of all before it
abbrev pub AreInOrder : ℕ → List Bucket → Type 0
AreInOrder size [] = Unit {0}
AreInOrder size (bucket ∷ buckets) = AllByRecursion (λ later. IsSoonAfter size bucket later.second) buckets × AreInOrder size buckets

-- no count of a bucket is greater than its total
abbrev pub IsCounted : Bucket → Type 0
IsCounted bucket = AreTotals bucket.totals.total bucket.totals

-- a ring of buckets, with their totals
pub record IsBucketRing (size : ℕ) (ring : Buffer Bucket) (totals : Totals) : Type 0 where
  pub some : 1 ≤ size
  pub few : size < 2 ^ 32
  pub capacity : ring.capacity ≡ size
  pub ordered : AreInOrder size ring.items
  pub counted : AllByRecursion IsCounted ring.items
  pub summed : totals ≡ sum_of totals_of_bucket ring.items
