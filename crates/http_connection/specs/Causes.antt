-- Why serving ended.
use Rattle.std.specs.Prelude.{◌≡◌, ℕ, Bool, true, false}
use Rattle.counted_io.specs.Counting.{one_more}
use Rattle.http_connection.specs.declared.ended.Ended.{Ended}
use Rattle.http_connection.specs.declared.ended.Ended.TheVariants as ended

-- serving ends so where a read met the end of the input
abbrev pub ends_input : Ended → Bool
ends_input ended.Closed = true
ends_input ended.Truncated = true
ends_input other = false

-- how serving ended, with the counts of failed reads and of failed writes before and after: an end for a failure comes where one more call failed, and no other call failed
abbrev pub IsServingCause : Ended → ℕ → ℕ → ℕ → ℕ → Type 0
IsServingCause ended.ReadFailed reads reads_after writes writes_after = (reads_after ≡ one_more reads) × (writes_after ≡ writes)
IsServingCause ended.WriteFailed reads reads_after writes writes_after = (reads_after ≡ reads) × (writes_after ≡ one_more writes)
IsServingCause other reads reads_after writes writes_after = (reads_after ≡ reads) × (writes_after ≡ writes)
