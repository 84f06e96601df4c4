-- What was written where a replay failed on its way.
use Rattle.std.specs.Prelude.{◌≡◌, ◌⊎◌, ℕ, List, [], ◌++◌, Option}
use Rattle.std.specs.Io.KnownBytes.{Appends}
use Rattle.counted_io.specs.Counting.{IsBeginning, AppendsPart}
use Rattle.service_profile.specs.Events.{History}
use Rattle.service.specs.Asked.{ResponseData}
use Rattle.replay.specs.declared.replaying.ReplayEnded.TheVariants as ended
use Rattle.replay.specs.Answering.{AreAnswered, IsAnswered, answer_line}
use Rattle.replay.specs.Asking.{asked}
use Rattle.replay.specs.Lines.{AreTold}
use Rattle.replay.specs.Replaying.{IsReplay}

-- nothing was written, or a beginning of the answer to a line
abbrev pub IsLinePart : History → List ℕ → Option (List ℕ) → Option (List ℕ) → Type 0
IsLinePart history line before after =
    Appends before after []
    ⊎ ((answered : ResponseData) × (next : History) × IsAnswered history (asked line) answered next × AppendsPart before after (answer_line answered))

-- a beginning of the answers to some first lines of an input
abbrev pub AreEventsPart : Option (List ℕ) → History → Option (List ℕ) → Option (List ℕ) → Type 0
AreEventsPart input history before after =
    (first : List (List ℕ)) × (later : List (List ℕ)) × (whole : List ℕ) × (next : History)
    × AreTold input (first ++ later) × AreAnswered history first whole next × AppendsPart before after whole

-- nothing, or a beginning of the replay of some first lines
abbrev pub IsPart : List (List ℕ) → List ℕ → Type 0
IsPart told text =
    (text ≡ [])
    ⊎ ((first : List (List ℕ)) × (later : List (List ℕ)) × (whole : List ℕ)
    × (told ≡ first ++ later) × IsReplay first ended.Done whole × IsBeginning text whole)

-- what was written for an input up to now
abbrev pub IsReplayedPart : Option (List ℕ) → Option (List ℕ) → Option (List ℕ) → Type 0
IsReplayedPart input before after = (told : List (List ℕ)) × (text : List ℕ) × AreTold input told × IsPart told text × Appends before after text
