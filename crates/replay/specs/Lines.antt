-- The lines of a text.
use Rattle.std.specs.Prelude.{◌≡◌, ℕ, ◌+◌, ◌-◌, ◌^◌, ◌≤◌, ◌==◌, not, ◌||◌, Bool, true, false, if◌then◌else◌, List, [], ◌∷◌, length, filter, Option, Some, None, ⊤}
use Rattle.std.specs.List.{list_all}

abbrev pub in_first : ℕ → List (List ℕ) → List (List ℕ)
in_first byte [] = (byte ∷ []) ∷ []
in_first byte (line ∷ lines) = (byte ∷ line) ∷ lines

-- the lines of a text, each with the line feed that ends it; the last one may have none
abbrev pub lines : List ℕ → List (List ℕ)
lines [] = []
lines (byte ∷ bytes) = if byte == 10 then (byte ∷ []) ∷ lines bytes else in_first byte (lines bytes)

-- a line that has blanks alone
abbrev pub is_blank : List ℕ → Bool
is_blank line = list_all (λ byte. (byte == 32) || (byte == 10)) line

-- the lines that say something
abbrev pub told : List ℕ → List (List ℕ)
told text = filter (λ line. not (is_blank line)) (lines text)

-- these are the lines of a text that say something, where the text is known
abbrev pub AreTold : Option (List ℕ) → List (List ℕ) → Type 0
AreTold None told_lines = ⊤
AreTold (Some text) told_lines = told_lines ≡ told text

-- the first of some lines; empty where there is none
abbrev pub first_of : List (List ℕ) → List ℕ
first_of [] = []
first_of (line ∷ later) = line

-- this is the first line of a text that says something, where the text is known; it is empty where none does
abbrev pub IsFirstTold : Option (List ℕ) → List ℕ → Type 0
IsFirstTold None line = ⊤
IsFirstTold (Some text) line = line ≡ first_of (told text)

-- ---- reading a line

abbrev pub first_if : Bool → List ℕ → List (List ℕ) → List (List ℕ)
first_if true line later = line ∷ later
first_if false line later = []

-- the first line was taken off a text, or there was none
abbrev pub TakesLine : Option (List ℕ) → Option (List ℕ) → Bool → List ℕ → Type 0
TakesLine None left there line = ⊤
TakesLine (Some text) left there line = (rest : List ℕ) × (left ≡ Some rest) × (lines text ≡ first_if there line (lines rest))

-- the lines up to the first that says something were taken off a text, or all where none does
abbrev pub TakesTold : Option (List ℕ) → Option (List ℕ) → Bool → List ℕ → Type 0
TakesTold None left there line = ⊤
TakesTold (Some text) left there line = (rest : List ℕ) × (left ≡ Some rest) × (told text ≡ first_if there line (told rest))

-- what is left of a text says the same
abbrev pub SaysTheSame : Option (List ℕ) → Option (List ℕ) → Type 0
SaysTheSame None left = ⊤
SaysTheSame (Some text) left = (rest : List ℕ) × (left ≡ Some rest) × (told text ≡ told rest)

-- ---- how many lines

-- a text, where it is known, has 2^64 - 1 lines or more
abbrev pub HasManyLines : Option (List ℕ) → Type 0
HasManyLines None = ⊤
HasManyLines (Some text) = 2 ^ 64 - 1 ≤ length (lines text)

-- what is left of a text has fewer lines, by this many at least
abbrev pub LosesLines : ℕ → Option (List ℕ) → Option (List ℕ) → Type 0
LosesLines count None left = ⊤
LosesLines count (Some text) left = (rest : List ℕ) × (left ≡ Some rest) × (count + length (lines rest) ≤ length (lines text))

-- a line was taken off a text, where there was one
abbrev pub LosesLine : Bool → Option (List ℕ) → Option (List ℕ) → Type 0
LosesLine true text left = LosesLines 1 text left
LosesLine false text left = ⊤
