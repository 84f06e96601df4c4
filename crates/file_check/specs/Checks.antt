-- What is printed where a file is checked.
use Rattle.std.specs.Prelude.{◌≡◌, ◌⊎◌, ℕ, List, ◌∷◌, [], ◌++◌, length, codes, decimal, Option, Some, None, ⊤}
use Rattle.std.specs.Io.KnownBytes.{Appends}
use Rattle.counted_io.specs.Counting.{AppendsProperPart}
use Rattle.refusals.specs.declared.RefusalNumber.TheVariants as refusal
use Rattle.service_file.specs.declared.settings.Settings.{Settings}
use Rattle.service_file.specs.Settled.{IsRead}
use Rattle.server_output.specs.Lines.{refused_line}
use Rattle.server_output.specs.declared.status.ServerStatus.{ServerStatus}
use Rattle.server_output.specs.declared.status.ServerStatus.TheVariants as status

-- the line of a file that can be used: how many services it has, and how many workers
abbrev pub accepted_line : Settings → List ℕ
accepted_line settings =
    codes "ok services=" ++ (decimal (length settings.services.items) ++ (codes " workers=" ++ (decimal settings.workers ++ 10 ∷ [])))

-- the text is a file that can be used, and the line of its settings was printed
abbrev pub IsAccepted : List ℕ → Option (List ℕ) → Option (List ℕ) → Type 0
IsAccepted text before after = (settings : Settings) × IsRead text (Some settings) × Appends before after (accepted_line settings)

-- the line that is printed of a text: that of the settings of the file that it is, or that of the refusal where it is no file that can be used
abbrev pub IsLineOf : List ℕ → List ℕ → Type 0
IsLineOf text line =
    ((settings : Settings) × IsRead text (Some settings) × (line ≡ accepted_line settings))
    ⊎ (IsRead text None × (line ≡ refused_line refusal.BadConfig))

-- the line that is printed of a file of which nobody knows the text: that of some text, or that of the refusal where it can't be read
abbrev pub IsLineOfSome : List ℕ → Type 0
IsLineOfSome line = ((text : List ℕ) × IsLineOf text line) ⊎ (line ≡ refused_line refusal.BadConfig)

-- what a check that was cut short left of its line: a beginning, and not all of it, where a write failed; the whole line where it couldn't be flushed; and nothing where memory ran out. No check ends as a listener that failed
abbrev pub IsCheckCut : (List ℕ → Type 0) → ServerStatus → Option (List ℕ) → Option (List ℕ) → Type 0
IsCheckCut IsLine status.WriteFailed before after = (line : List ℕ) × IsLine line × AppendsProperPart before after line
IsCheckCut IsLine status.FlushFailed before after = (line : List ℕ) × IsLine line × Appends before after line
IsCheckCut IsLine status.OutOfMemory before after = after ≡ before
IsCheckCut IsLine status.ListenerFailed before after = ⊥
IsCheckCut IsLine other before after = ⊤
