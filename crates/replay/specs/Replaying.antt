-- What is written for the input of a replay.
use Rattle.std.specs.Prelude.{◌≡◌, ℕ, Bool, true, false, List, [], ◌∷◌, Option, Some, None, Result, Ok, Err, ⊤}
use Rattle.std.specs.Io.KnownBytes.{Appends}
use Rattle.bpf_profile.specs.declared.layout.Layout.TheVariants as layout
use Rattle.bpf_profile.specs.Layouts.{context_size}
use Rattle.bpf_profile.specs.Safety.{IsSafe}
use Rattle.verifier.specs.DefaultClassifier.{default_classifier_bytes}
use Rattle.bpf_profile.specs.Programs.{VerifiedProgram}
use Rattle.verifier.specs.Verifying.{IsVerification}
use Rattle.service_profile.specs.declared.configuration.ConfigParts.{ConfigParts}
use Rattle.service_profile.specs.FirstOpening.{first_opening}
use Rattle.service_profile.specs.Events.{history_of, History}
use Rattle.requests.specs.Configurations.{config_in}
use Rattle.service.specs.Asked.{ResponseData}
use Rattle.replay.specs.declared.error.ReplayError.{ReplayError}
use Rattle.replay.specs.declared.error.ReplayError.TheVariants as error
use Rattle.replay.specs.declared.replaying.ReplayEnded.{ReplayEnded}
use Rattle.replay.specs.declared.replaying.ReplayEnded.TheVariants as ended
use Rattle.replay.specs.Answering.{AreAnswered, IsAnswered, answer_line}
use Rattle.replay.specs.Asking.{asked}
use Rattle.replay.specs.Lines.{AreTold, IsFirstTold}

-- a service that opens with a configuration and the default classifier, which sees records of layout 1
abbrev pub IsOpened : ConfigParts → History → Type 0
IsOpened parts history =
    (program : VerifiedProgram) × IsVerification default_classifier_bytes program × (program.layout ≡ layout.One) × IsSafe (context_size layout.One) program.slots program.budget
    × (history ≡ history_of (first_opening parts program) [])

-- the lines after a configuration
abbrev pub IsReplayOf : Option ConfigParts → List (List ℕ) → ReplayEnded → List ℕ → Type 0
IsReplayOf None events end text = (end ≡ ended.BadConfig) × (text ≡ [])
IsReplayOf (Some parts) events end text =
    (end ≡ ended.Done) × (opened : History) × (after : History) × IsOpened parts opened × AreAnswered opened events text after

-- a configuration on the first line, then events
abbrev pub IsReplay : List (List ℕ) → ReplayEnded → List ℕ → Type 0
IsReplay [] end text = (end ≡ ended.BadConfig) × (text ≡ [])
IsReplay (first ∷ events) end text = IsReplayOf (config_in first) events end text

-- what was written for an input: the replay of its lines that say something
abbrev pub IsReplayed : Option (List ℕ) → ReplayEnded → Option (List ℕ) → Option (List ℕ) → Type 0
IsReplayed input end before after = (told : List (List ℕ)) × (text : List ℕ) × AreTold input told × IsReplay told end text × Appends before after text

-- the line that a replay leaves to its caller, by how it ended: the first one of the input that says something. It is known to have been read where the replay ended or a write failed, since a replay writes behind that line alone
abbrev pub IsFirstLeft : Result ReplayEnded ReplayError → Option (List ℕ) → List ℕ → Type 0
IsFirstLeft (Ok end) input line = IsFirstTold input line
IsFirstLeft (Err error.WriteFailed) input line = IsFirstTold input line
IsFirstLeft (Err error.ReadFailed) input line = ⊤
IsFirstLeft (Err error.OutOfMemory) input line = ⊤
IsFirstLeft (Err error.TooLong) input line = ⊤

-- ---- a part of a replay

-- the configuration on a line, where there is one
abbrev pub config_told : Bool → List ℕ → Option ConfigParts
config_told true line = config_in line
config_told false line = None

-- the configuration that the first line gives, and the lines after it
abbrev pub Begins : List (List ℕ) → Option ConfigParts → List (List ℕ) → Type 0
Begins [] config events = config ≡ None
Begins (first ∷ later) config events = (config ≡ config_in first) × (later ≡ events)

-- whatever says the rest of the input, the whole of it begins so
abbrev pub IsBegun : Option (List ℕ) → Option (List ℕ) → Option ConfigParts → Type 0
IsBegun input left config = (events : List (List ℕ)) → AreTold left events → (told : List (List ℕ)) × AreTold input told × Begins told config events

-- a line was answered
abbrev pub IsLineAnswered : History → List ℕ → History → Option (List ℕ) → Option (List ℕ) → Type 0
IsLineAnswered history line next before after =
    (answered : ResponseData) × IsAnswered history (asked line) answered next × Appends before after (answer_line answered)

-- the rest of an input was answered
abbrev pub AreEventsAnswered : Option (List ℕ) → History → History → Option (List ℕ) → Option (List ℕ) → Type 0
AreEventsAnswered input history next before after =
    (events : List (List ℕ)) × (text : List ℕ) × AreTold input events × AreAnswered history events text next × Appends before after text
