-- A stream, and how the calls of each of its directions ended.
use Rattle.std.specs.Prelude.{ℕ}

-- how many calls failed, how many would have had to wait, and how many met the end of the input
pub record CountsOf : Type 0 where
  pub failures : ℕ
  pub waits : ℕ
  pub ends : ℕ

abbrev pub new_counts : CountsOf
new_counts = record { failures = 0; waits = 0; ends = 0 }

-- a stream, and the counts of its reads and of its writes
pub record WireData (T : Type 0) : Type 0 where
  pub inner : T
  pub reads : CountsOf
  pub writes : CountsOf
