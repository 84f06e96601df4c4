-- Replays, line after line.
use Rattle.std.proofs.Common.{◌≡◌, ℕ, true, false, List, [], ◌∷◌, ◌++◌, Option, Some, None, refl, rules}
use Rattle.counted_io.proofs.Pieces.{appends_none, appends_more}
use Rattle.service_profile.specs.declared.configuration.ConfigParts.{ConfigParts}
use Rattle.service_profile.specs.Events.{History}
use Rattle.requests.specs.Configurations.{config_in}
use Rattle.replay.specs.declared.replaying.ReplayEnded.TheVariants as ended
use Rattle.replay.specs.Answering.{answer_line}
use Rattle.replay.specs.Lines.{told, AreTold, TakesTold}
use Rattle.replay.specs.Replaying.{IsOpened, IsReplay, IsReplayed, Begins, IsBegun, IsLineAnswered, AreEventsAnswered}

-- ---- lines

pub told_after : (input left : Option (List ℕ)) (line : List ℕ) (events : List (List ℕ)) → TakesTold input left true line → AreTold left events → AreTold input (line ∷ events)
told_after input left line events takes rest = search rules

told_all : (input left : Option (List ℕ)) (line : List ℕ) → TakesTold input left false line → AreTold input []
told_all input left line takes = search rules

pub some_told : (input : Option (List ℕ)) → (events : List (List ℕ)) × AreTold input events
some_told None = ([], tt)
some_told (Some text) = (told text, refl)

-- ---- events

pub events_on : (input left before mid written : Option (List ℕ)) (line : List ℕ) (history next after : History)
    → TakesTold input left true line → IsLineAnswered history line next before mid → AreEventsAnswered left next after mid written
    → AreEventsAnswered input history after before written
events_on input left before mid written line history next after takes (answered, is, sent) (events, text, rest, run, more) =
    (line ∷ events, answer_line answered ++ text, told_after input left line events takes rest, (answered, next, text, is, refl, run), appends_more before mid written (answer_line answered) text sent more)

pub events_end : (input left written : Option (List ℕ)) (line : List ℕ) (history : History)
    → TakesTold input left false line → AreEventsAnswered input history history written written
events_end input left written line history takes = ([], [], told_all input left line takes, (refl, refl), appends_none written)

-- ---- the first line

pub begun_by : (input left : Option (List ℕ)) (line : List ℕ) (config : Option ConfigParts) → TakesTold input left true line → config ≡ config_in line → IsBegun input left config
begun_by input left line config takes is = λ events rest. (line ∷ events, told_after input left line events takes rest, (is, refl))

pub begun_none : (input left : Option (List ℕ)) (line : List ℕ) → TakesTold input left false line → IsBegun input left None
begun_none input left line takes = λ events rest. ([], told_all input left line takes, refl)

-- ---- the whole

bad_config : (lines events : List (List ℕ)) → Begins lines None events → IsReplay lines ended.BadConfig []
bad_config lines events begins = search rules

pub replayed_bad : (input left written : Option (List ℕ)) → IsBegun input left None → IsReplayed input ended.BadConfig written written
replayed_bad input left written begun =
    let rest = some_told left in
    let all = begun rest.0 rest.1 in
    (all.0, [], all.1, bad_config all.0 rest.0 all.2, appends_none written)

pub replayed_done : (input left before after : Option (List ℕ)) (parts : ConfigParts) (opened last : History)
    → IsBegun input left (Some parts) → IsOpened parts opened → AreEventsAnswered left opened last before after → IsReplayed input ended.Done before after
replayed_done input left before after parts opened last begun is a = search rules
