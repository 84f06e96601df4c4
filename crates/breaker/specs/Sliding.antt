-- A sliding window of either kind.
use Rattle.std.specs.Prelude.{◌≡◌, ℕ, List}
use Rattle.breaker.specs.declared.sliding.SlidingWindow.{SlidingWindow}
use Rattle.breaker.specs.declared.sliding.SlidingWindow.TheVariants.{Count, Time}
use Rattle.service_profile.specs.declared.configuration.ConfigParts.{ConfigParts}
use Rattle.service_profile.specs.declared.notes.Note.{Note}
use Rattle.service_profile.specs.Windows.{last, in_window}
use Rattle.windows.specs.Kept.{KeepsOutcomes, KeepsBuckets, HasRoomForOne}
use Rattle.windows.specs.Notes.{recent}

-- the notes since the window was made or cleared
abbrev pub KeepsNotes : SlidingWindow → List Note → Type 0
KeepsNotes (Count window) notes = KeepsOutcomes window notes
KeepsNotes (Time window) notes = KeepsBuckets window notes

-- the notes among these that count at a moment
abbrev pub counts_in : SlidingWindow → ℕ → List Note → List Note
counts_in (Count window) moment notes = last window.size notes
counts_in (Time window) moment notes = recent window.size moment notes

-- one note more can be counted
abbrev pub HasRoomInWindow : SlidingWindow → Type 0
HasRoomInWindow (Count window) = Unit {0}
HasRoomInWindow (Time window) = HasRoomForOne window

-- what counts is what the configuration says
abbrev pub IsConfigured : ConfigParts → SlidingWindow → Type 0
IsConfigured config window = (moment : ℕ) (notes : List Note) → counts_in window moment notes ≡ in_window config moment notes
