-- What the program's words ask for, and how that ends.
use Rattle.std.specs.Prelude.{◌≡◌, ◌⊎◌, ℕ, List, codes, Option}
use Rattle.refusals.specs.declared.RefusalNumber.TheVariants.{BadConfig}
use Rattle.classifier_commands.specs.declared.answer.Answer.{Answer}
use Rattle.classifier_commands.specs.declared.answer.Answer.TheVariants as answer
use Rattle.classifier_commands.specs.declared.commands.Status.{Status}
use Rattle.classifier_commands.specs.declared.commands.Status.TheVariants as status
use Rattle.classifier_commands.specs.declared.error.CommandError.{CommandError}
use Rattle.classifier_commands.specs.declared.error.CommandError.TheVariants as command_error
use Rattle.classifier_commands.specs.Commands.{Words, NamesAlone, NamesFaulty, IsPrinted}
use Rattle.classifier_commands.specs.Commands.{NamesNone as names_no_classifier_command, AsksForInput as classifier_asks_for_input, HasAnswered as has_answered_of_classifier}
use Rattle.replay.specs.declared.ReplayEnded.{ReplayEnded}
use Rattle.replay.specs.declared.ReplayEnded.TheVariants as ended
use Rattle.replay.specs.declared.ReplayError.{ReplayError}
use Rattle.replay.specs.declared.ReplayError.TheVariants as error
use Rattle.replay.specs.Replaying.{IsReplayed}

-- ---- what is asked for

abbrev pub NamesReplay : Words → Type 0
NamesReplay words = NamesAlone words (codes "replay")

-- neither a command on a classifier nor a replay
abbrev pub NamesNone : Words → Type 0
NamesNone words = names_no_classifier_command words × (¬ (NamesReplay words))

-- input is asked for: by a command on a classifier that does, and by a replay
abbrev pub AsksForInput : Words → Type 0
AsksForInput words = classifier_asks_for_input words ⊎ NamesReplay words

-- a refusal of what the words ask for is explained on standard error: that of the program of `judge` or `verify`, and that of a replay's configuration
abbrev pub NamesExplained : Words → Type 0
NamesExplained words = NamesFaulty words ⊎ NamesReplay words

-- ---- replays

-- the refusal of a configuration that can't be used
abbrev pub bad_config : Answer
bad_config = answer.Refused (record { number = BadConfig; place = 0 })

-- how a command ends after a replay
abbrev pub IsReplayOutput : ReplayEnded → Status → Option (List ℕ) → Option (List ℕ) → Type 0
IsReplayOutput ended.Done reached before after = (reached ≡ status.Done) × (after ≡ before)
IsReplayOutput ended.BadConfig reached before after = IsPrinted bad_config reached before after

-- the events of the bytes that the reader has were answered; a configuration that can't be used is refused
abbrev pub HasReplayed : Option (List ℕ) → Status → Option (List ℕ) → Option (List ℕ) → Type 0
HasReplayed known reached before after = (end : ReplayEnded) × (replayed : Option (List ℕ)) × IsReplayed known end before replayed × IsReplayOutput end reached replayed after

-- how a replay ends that failed
abbrev pub status_of_error : ReplayError → Status
status_of_error error.ReadFailed = status.ReadFailed
status_of_error error.WriteFailed = status.WriteFailed
status_of_error error.OutOfMemory = status.OutOfMemory
status_of_error error.TooLong = status.TooLong

-- the error of a replay whose answer could not be printed
abbrev pub replay_error_of : CommandError → ReplayError
replay_error_of command_error.ReadFailed = error.ReadFailed
replay_error_of command_error.WriteFailed = error.WriteFailed
replay_error_of command_error.OutOfMemory = error.OutOfMemory

-- ---- all commands

-- what the words ask for was done, where the reader has these bytes
abbrev pub HasAnswered : Words → Option (List ℕ) → Status → Option (List ℕ) → Option (List ℕ) → Type 0
HasAnswered words known reached before after =
    has_answered_of_classifier words known reached before after
    ⊎ (NamesReplay words × HasReplayed known reached before after)
