-- What contracts see of a window: how far it reaches, and what it holds of its notes.
use Rattle.std.specs.Prelude.{ℕ, List}
use Rattle.windows.specs.declared.buckets.Bucket.{Bucket}
use Rattle.windows.specs.declared.outcomes.Outcome.{Outcome}

-- how many notes count, and the outcomes of these, the oldest first
pub record HeldOutcomes : Type 0 where
  pub size : ℕ
  pub outcomes : List Outcome

-- how many seconds count, and the buckets of those that have a note, the oldest first
pub record HeldBuckets : Type 0 where
  pub size : ℕ
  pub buckets : List Bucket
