-- Where the end of an input was met, and how often.
use Rattle.std.specs.Prelude.{◌≡◌, ℕ, ◌==◌, not, Bool, true, false, if◌then◌else◌, List, [], ◌∷◌, length, Option, Result, Ok, Err, ⊤}
use Rattle.std.specs.Io.KnownBytes.{IsAtEnd}
use Rattle.counted_io.specs.Counting.{AtMostOneMore, counted, one_more}
use Rattle.replay.specs.declared.error.ReplayError.{ReplayError}
use Rattle.replay.specs.declared.lines.Found.{Found}
use Rattle.replay.specs.declared.lines.Found.TheVariants as found
use Rattle.replay.specs.declared.replaying.ReplayEnded.{ReplayEnded}
use Rattle.replay.specs.declared.replaying.ReplayEnded.TheVariants as ended

-- a line was found
abbrev pub is_there : Found → Bool
is_there found.Line = true
is_there found.Last = true
is_there found.End = false

-- the end of the input wasn't met
abbrev pub goes_on : Found → Bool
goes_on found.Line = true
goes_on found.Last = false
goes_on found.End = false

-- what the end of the input makes of the bytes of a line before it
abbrev pub end_found : List ℕ → Found
end_found line = if length line == 0 then found.End else found.Last

-- a last line of blanks is none
abbrev pub told_found : Bool → Found
told_found blank = if blank then found.End else found.Last

abbrev pub kept_line : Bool → List ℕ → List ℕ
kept_line blank line = if blank then [] else line

-- where the end was found there is no byte of a line
abbrev pub IsNoneAtEnd : Found → List ℕ → Type 0
IsNoneAtEnd found.Line line = ⊤
IsNoneAtEnd found.Last line = ⊤
IsNoneAtEnd found.End line = line ≡ []

-- the bytes end with a line feed
abbrev pub has_feed : List ℕ → Bool
has_feed [] = false
has_feed (byte ∷ []) = byte == 10
has_feed (byte ∷ next ∷ later) = has_feed (next ∷ later)

-- nothing is left behind the last line
abbrev pub IsLastRead : Found → Option (List ℕ) → Type 0
IsLastRead found.Line left = ⊤
IsLastRead found.Last left = IsAtEnd left
IsLastRead found.End left = IsAtEnd left

-- ---- how many reads met the end, with the reader's count of them before and after

-- one where the end was found, and else none
abbrev pub IsEndCount : Result Found ReplayError → ℕ → ℕ → Type 0
IsEndCount (Ok at) before after = after ≡ counted (not (goes_on at)) before
IsEndCount (Err e) before after = after ≡ before

-- the rest of an input was read: just one read met its end, and at most one where reading stopped on the way
abbrev pub AreEndsOfRest : {X : Type 0} → Result X ReplayError → ℕ → ℕ → Type 0
AreEndsOfRest (Ok x) before after = after ≡ one_more before
AreEndsOfRest (Err e) before after = AtMostOneMore before after

-- just one read met the end where all was answered; none did behind a first line that is refused and has its line feed, and at most one in each other case
abbrev pub AreEnds : Result ReplayEnded ReplayError → List ℕ → ℕ → ℕ → Type 0
AreEnds (Ok ended.Done) first before after = after ≡ one_more before
AreEnds (Ok ended.BadConfig) first before after = after ≡ counted (not (has_feed first)) before
AreEnds (Err e) first before after = AtMostOneMore before after
