-- Which notes a window keeps: a relation between what it holds and the whole list of notes since it was made or cleared.
use Rattle.std.specs.Prelude.{◌≡◌, ℕ, ◌+◌, ◌-◌, ◌^◌, ◌≤◌, nat_lt, Bool, List, length, map}
use Rattle.std.specs.List.{filter, AllByRecursion}
use Rattle.service_profile.specs.declared.notes.Note.{Note}
use Rattle.service_profile.specs.Windows.{second_of, last, totals_of}
use Rattle.service_profile.specs.RunningTotals.{AreTotals}
use Rattle.windows.specs.declared.buckets.Bucket.{Bucket}
use Rattle.windows.specs.declared.outcomes.Outcome.{Outcome}
use Rattle.windows.specs.Held.{HeldOutcomes, HeldBuckets}
use Rattle.windows.specs.Notes.{recent, AreNotAfter}
use Rattle.windows.specs.Rings.{totals_of_bucket}
use Rattle.windows.specs.Sums.{sum_of}

abbrev pub outcome_of : Note → Outcome
outcome_of note = record { failed = note.failed; slow = note.slow }

-- the outcomes are those of the last notes
abbrev pub KeepsOutcomes : HeldOutcomes → List Note → Type 0
KeepsOutcomes held notes = held.outcomes ≡ map outcome_of (last held.size notes)

-- whether a bucket still counts in a window of so many seconds
abbrev pub is_in_window : ℕ → ℕ → Bucket → Bool
is_in_window size now bucket = nat_lt (second_of now) (bucket.second + size)

-- at each moment that is not before a note's: no bucket is of a later second, and the buckets that count have the totals of the notes that count
pub record KeepsBuckets (held : HeldBuckets) (notes : List Note) : Type 0 where
  pub not_after : (now : ℕ) → AreNotAfter now notes → AllByRecursion (λ bucket. bucket.second ≤ second_of now) held.buckets
  pub exact : (now : ℕ) → AreNotAfter now notes → sum_of totals_of_bucket (filter (is_in_window held.size now) held.buckets) ≡ totals_of (recent held.size now notes)
  pub few : AreTotals (length notes) (sum_of totals_of_bucket held.buckets)

-- one note more can be counted in a word
abbrev pub HasRoomForOne : HeldBuckets → Type 0
HasRoomForOne held = AreTotals (2 ^ 64 - 9) (sum_of totals_of_bucket held.buckets)
