-- The lines of a log.
use Rattle.std.specs.Prelude.{◌≡◌, ◌⊎◌, ℕ, List, ◌∷◌, [], ◌++◌, codes, decimal}
use Rattle.answers.specs.Texts.{state_name}
use Rattle.service_log.specs.declared.lines.Told.{Told}
use Rattle.service_log.specs.declared.lines.Told.TheVariants as told

-- each line begins with the moment in milliseconds and the name of the service, and ends with a line feed
abbrev pub line_of : ℕ → List ℕ → List ℕ → List ℕ
line_of moment name text = codes "moment=" ++ (decimal moment ++ (codes " service=" ++ (name ++ (codes " " ++ (text ++ 10 ∷ [])))))

-- what is told of it, as a line has it
abbrev pub text_of : Told → List ℕ
-- the state, the one before it, and the number of the period since then
text_of (told.State state before period) = codes "state=" ++ (state_name state ++ (codes " was=" ++ (state_name before ++ (codes " period=" ++ decimal period))))
text_of (told.Installed version budget) = codes "installed version=" ++ (decimal version ++ (codes " budget=" ++ decimal budget))
text_of told.Full = codes "journal=full"
-- the number of the last entry that was handed out
text_of (told.Cut last) = codes "journal=cut last=" ++ decimal last
-- and how many of the entries no page has had
text_of (told.Rolled last unread) = codes "journal=rolled last=" ++ (decimal last ++ (codes " unread=" ++ decimal unread))
text_of (told.Dropped last unread) = codes "journal=dropped last=" ++ (decimal last ++ (codes " unread=" ++ decimal unread))
text_of (told.Released ticket) = codes "ticket=" ++ (decimal ticket ++ codes " released by age")
text_of (told.LeftOut lines) = codes "left out lines=" ++ decimal lines

-- a report can't be used, and why
abbrev pub refused_text : List ℕ → List ℕ
refused_text words = codes "report=refused " ++ words

-- a line tells one of these, and nothing else
abbrev pub IsText : List ℕ → Type 0
IsText text = ((what : Told) × (text ≡ text_of what)) ⊎ ((words : List ℕ) × (text ≡ refused_text words))

-- a line of a log, of some service at some moment
abbrev pub IsLogLine : List ℕ → Type 0
IsLogLine line = (moment : ℕ) × (name : List ℕ) × (text : List ℕ) × IsText text × (line ≡ line_of moment name text)
