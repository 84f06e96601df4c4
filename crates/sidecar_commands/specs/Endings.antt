-- Why a command ends as it does, and what it has written then.
use Rattle.std.specs.Prelude.{◌≡◌, ◌⊎◌, ℕ, List, Option}
use Rattle.classifier_commands.specs.declared.commands.Status.{Status}
use Rattle.classifier_commands.specs.declared.commands.Status.TheVariants as status
use Rattle.classifier_commands.specs.Commands.{Words}
use Rattle.classifier_commands.specs.Endings.{IsInPart}
use Rattle.classifier_commands.specs.Endings.{IsCommandEnd, IsUnanswered as is_command_unanswered}
use Rattle.replay.specs.declared.ReplayError.{ReplayError}
use Rattle.replay.specs.declared.ReplayError.TheVariants as error
use Rattle.replay.specs.Lines.{HasManyLines}
use Rattle.replay.specs.Parts.{IsReplayedPart}
use Rattle.sidecar_commands.specs.Commands.{NamesReplay, HasReplayed, HasAnswered}

-- an end that is a failure comes where one more read failed, one more write failed, memory ran out, or the input of a replay has very many lines; else no call failed
abbrev pub IsSidecarEnd : Status → ℕ → ℕ → ℕ → ℕ → Option (List ℕ) → Type 0
IsSidecarEnd status.TooLong reads reads_after writes writes_after input = (reads_after ≡ reads) × (writes_after ≡ writes) × HasManyLines input
IsSidecarEnd other reads reads_after writes writes_after input = IsCommandEnd other reads reads_after writes writes_after

-- ---- where a command failed

-- a read failed, memory ran out, or the input of a replay has very many lines
abbrev pub IsUnanswered : Status → Type 0
IsUnanswered ended = is_command_unanswered ended ⊎ (ended ≡ status.TooLong)

-- a beginning of an answer to the words was written, or all of it; or a replay answered some first lines, the last of them in part
abbrev pub IsAnsweredInPart : Words → Option (List ℕ) → Option (List ℕ) → Option (List ℕ) → Type 0
IsAnsweredInPart words known before after =
    IsInPart (HasAnswered words known) before after
    ⊎ (NamesReplay words × IsReplayedPart known before after)

-- a refusal that failed left the writer as it was, but for what it wrote where a write failed
abbrev pub IsCut : {W : Type 0} → ReplayError → W → W → Type 0 → Type 0
IsCut error.ReadFailed before after written = after ≡ before
IsCut error.WriteFailed before after written = written
IsCut error.OutOfMemory before after written = after ≡ before
IsCut error.TooLong before after written = after ≡ before

-- what a replay wrote that failed: some first lines' answers; or a beginning of the refusal of its configuration, where a write failed
abbrev pub IsReplayCut : ReplayError → Option (List ℕ) → Option (List ℕ) → Option (List ℕ) → Type 0
IsReplayCut error.ReadFailed known before after = IsReplayedPart known before after
IsReplayCut error.WriteFailed known before after = IsInPart (HasReplayed known) before after ⊎ IsReplayedPart known before after
IsReplayCut error.OutOfMemory known before after = IsReplayedPart known before after
IsReplayCut error.TooLong known before after = IsReplayedPart known before after
