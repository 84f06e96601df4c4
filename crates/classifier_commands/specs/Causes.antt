-- Why a command fails: a failed call, which was counted, or want of memory.
use Rattle.std.specs.Prelude.{◌≡◌, ℕ, Result, Ok, Err}
use Rattle.counted_io.specs.Counting.{one_more}
use Rattle.classifier_commands.specs.declared.error.CommandError.{CommandError}
use Rattle.classifier_commands.specs.declared.error.CommandError.TheVariants as error

-- ---- where there is a reader alone, with its count before and after

abbrev pub IsReadCauseOf : CommandError → ℕ → ℕ → Type 0
IsReadCauseOf error.ReadFailed before after = after ≡ one_more before
IsReadCauseOf error.WriteFailed before after = ⊥
IsReadCauseOf error.OutOfMemory before after = after ≡ before

abbrev pub IsReadCause : {X : Type 0} → Result X CommandError → ℕ → ℕ → Type 0
IsReadCause (Ok x) before after = after ≡ before
IsReadCause (Err e) before after = IsReadCauseOf e before after

-- ---- where there is a writer alone, with its count before and after

abbrev pub IsWriteCauseOf : CommandError → ℕ → ℕ → Type 0
IsWriteCauseOf error.ReadFailed before after = ⊥
IsWriteCauseOf error.WriteFailed before after = after ≡ one_more before
IsWriteCauseOf error.OutOfMemory before after = after ≡ before

abbrev pub IsWriteCause : {X : Type 0} → Result X CommandError → ℕ → ℕ → Type 0
IsWriteCause (Ok x) before after = after ≡ before
IsWriteCause (Err e) before after = IsWriteCauseOf e before after

-- ---- where there are both

abbrev pub IsCauseOf : CommandError → ℕ → ℕ → ℕ → ℕ → Type 0
IsCauseOf error.ReadFailed reads reads_after writes writes_after = (reads_after ≡ one_more reads) × (writes_after ≡ writes)
IsCauseOf error.WriteFailed reads reads_after writes writes_after = (reads_after ≡ reads) × (writes_after ≡ one_more writes)
IsCauseOf error.OutOfMemory reads reads_after writes writes_after = (reads_after ≡ reads) × (writes_after ≡ writes)

-- an error is answered where one more read failed, one more write failed, or memory ran out; else no call failed
abbrev pub IsCommandCause : {X : Type 0} → Result X CommandError → ℕ → ℕ → ℕ → ℕ → Type 0
IsCommandCause (Ok x) reads reads_after writes writes_after = (reads_after ≡ reads) × (writes_after ≡ writes)
IsCommandCause (Err e) reads reads_after writes writes_after = IsCauseOf e reads reads_after writes writes_after
