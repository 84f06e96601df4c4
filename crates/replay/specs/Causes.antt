-- Why a replay ends early: a failed call, which was counted, want of memory, or an input without an end.
use Rattle.std.specs.Prelude.{◌≡◌, ℕ, List, Option, Result, Ok, Err}
use Rattle.counted_io.specs.Counting.{one_more}
use Rattle.replay.specs.declared.error.ReplayError.{ReplayError}
use Rattle.replay.specs.declared.error.ReplayError.TheVariants as error
use Rattle.replay.specs.Lines.{HasManyLines}

-- ---- where there is a reader alone, with its count before and after, and the input

abbrev pub IsReadCauseOf : ReplayError → ℕ → ℕ → Option (List ℕ) → Type 0
IsReadCauseOf error.ReadFailed before after input = after ≡ one_more before
IsReadCauseOf error.WriteFailed before after input = ⊥
IsReadCauseOf error.OutOfMemory before after input = after ≡ before
IsReadCauseOf error.TooLong before after input = (after ≡ before) × HasManyLines input

abbrev pub IsReadCause : {X : Type 0} → Result X ReplayError → ℕ → ℕ → Option (List ℕ) → Type 0
IsReadCause (Ok x) before after input = after ≡ before
IsReadCause (Err e) before after input = IsReadCauseOf e before after input

-- ---- where there is a writer alone, with its count before and after

abbrev pub IsWriteCauseOf : ReplayError → ℕ → ℕ → Type 0
IsWriteCauseOf error.ReadFailed before after = ⊥
IsWriteCauseOf error.WriteFailed before after = after ≡ one_more before
IsWriteCauseOf error.OutOfMemory before after = after ≡ before
IsWriteCauseOf error.TooLong before after = ⊥

abbrev pub IsWriteCause : {X : Type 0} → Result X ReplayError → ℕ → ℕ → Type 0
IsWriteCause (Ok x) before after = after ≡ before
IsWriteCause (Err e) before after = IsWriteCauseOf e before after

-- ---- where there are both

abbrev pub IsCauseOf : ReplayError → ℕ → ℕ → ℕ → ℕ → Option (List ℕ) → Type 0
IsCauseOf error.ReadFailed reads reads_after writes writes_after input = (reads_after ≡ one_more reads) × (writes_after ≡ writes)
IsCauseOf error.WriteFailed reads reads_after writes writes_after input = (reads_after ≡ reads) × (writes_after ≡ one_more writes)
IsCauseOf error.OutOfMemory reads reads_after writes writes_after input = (reads_after ≡ reads) × (writes_after ≡ writes)
IsCauseOf error.TooLong reads reads_after writes writes_after input = (reads_after ≡ reads) × (writes_after ≡ writes) × HasManyLines input

-- an error is answered where one more read failed, one more write failed, memory ran out, or the input has very many lines; else no call failed
abbrev pub IsReplayCause : {X : Type 0} → Result X ReplayError → ℕ → ℕ → ℕ → ℕ → Option (List ℕ) → Type 0
IsReplayCause (Ok x) reads reads_after writes writes_after input = (reads_after ≡ reads) × (writes_after ≡ writes)
IsReplayCause (Err e) reads reads_after writes writes_after input = IsCauseOf e reads reads_after writes writes_after input
