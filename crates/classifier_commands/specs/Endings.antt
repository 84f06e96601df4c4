-- Why a command ends as it does, and what it has written then.
use Rattle.std.specs.Prelude.{◌≡◌, ◌⊎◌, ℕ, List, [], Option, Some}
use Rattle.std.specs.Io.KnownBytes.{Appends}
use Rattle.counted_io.specs.Counting.{one_more, AppendsPart}
use Rattle.classifier_commands.specs.declared.commands.Status.{Status}
use Rattle.classifier_commands.specs.declared.commands.Status.TheVariants as status
use Rattle.classifier_commands.specs.declared.error.CommandError.{CommandError}
use Rattle.classifier_commands.specs.declared.error.CommandError.TheVariants as error
use Rattle.classifier_commands.specs.Commands.{Words, HasAnswered, usage}

-- the usage was written, or a beginning of it, where one more write failed
abbrev pub IsUsageShown : Status → Option (List ℕ) → Option (List ℕ) → ℕ → ℕ → Type 0
IsUsageShown status.WrongArguments before after failures failures_after = Appends before after usage × (failures_after ≡ failures)
IsUsageShown status.UsageFailed before after failures failures_after = AppendsPart before after usage × (failures_after ≡ one_more failures)
IsUsageShown other before after failures failures_after = ⊥

-- an end that is a failure comes where one more read failed, one more write failed, or memory ran out; else no call failed
abbrev pub IsCommandEnd : Status → ℕ → ℕ → ℕ → ℕ → Type 0
IsCommandEnd status.ReadFailed reads reads_after writes writes_after = (reads_after ≡ one_more reads) × (writes_after ≡ writes)
IsCommandEnd status.WriteFailed reads reads_after writes writes_after = (reads_after ≡ reads) × (writes_after ≡ one_more writes)
IsCommandEnd status.TooLong reads reads_after writes writes_after = ⊥
IsCommandEnd other reads reads_after writes writes_after = (reads_after ≡ reads) × (writes_after ≡ writes)

-- ---- where a command failed

-- a read failed, or memory ran out
abbrev pub IsUnanswered : Status → Type 0
IsUnanswered ended = (ended ≡ status.ReadFailed) ⊎ (ended ≡ status.OutOfMemory)

-- a beginning of one of these answers was written, or all of it; an answer's text is what it leaves in an empty writer
abbrev pub IsInPart : (Status → Option (List ℕ) → Option (List ℕ) → Type 0) → Option (List ℕ) → Option (List ℕ) → Type 0
IsInPart answers before after = (ended : Status) × (text : List ℕ) × answers ended (Some []) (Some text) × AppendsPart before after text

-- a beginning of an answer to the words was written, or all of it
abbrev pub IsAnsweredInPart : Words → Option (List ℕ) → Option (List ℕ) → Option (List ℕ) → Type 0
IsAnsweredInPart words known before after = IsInPart (HasAnswered words known) before after

-- a command that failed left the writer as it was, but for what it wrote where a write failed
abbrev pub IsCut : {W : Type 0} → CommandError → W → W → Type 0 → Type 0
IsCut error.ReadFailed before after written = after ≡ before
IsCut error.WriteFailed before after written = written
IsCut error.OutOfMemory before after written = after ≡ before

-- ---- standard error

-- what standard error may have behind a refused program, for people: nothing, or a text, or a beginning of it
abbrev pub IsExplained : Option (List ℕ) → Option (List ℕ) → Type 0
IsExplained before after = (after ≡ before) ⊎ ((text : List ℕ) × AppendsPart before after text)
