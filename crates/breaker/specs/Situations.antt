-- What contracts see of a breaker, and where it stands: its standing, the notes of its period, and how many permissions of it are held.
use Rattle.std.specs.Prelude.{◌≡◌, ℕ, ◌-◌, ◌^◌, Bool, true, false, List, []}
use Rattle.breaker.specs.declared.sliding.SlidingWindow.{SlidingWindow}
use Rattle.breaker.specs.Sliding.{KeepsNotes, HasRoomInWindow, IsConfigured}
use Rattle.service_profile.specs.declared.configuration.ConfigParts.{ConfigParts}
use Rattle.service_profile.specs.declared.notes.Note.{Note}
use Rattle.service_profile.specs.declared.notes.Totals.{Totals}
use Rattle.service_profile.specs.declared.standings.Standing.{Standing}
use Rattle.service_profile.specs.declared.states.State.TheVariants as state
use Rattle.service_profile.specs.Standings.{is_half_open}
use Rattle.service_profile.specs.Windows.{totals_of}
use Rattle.service_profile.specs.RunningTotals.{AreTotals}

-- a breaker, as contracts see it: no note is held, but a window over those of the period, or in HALF_OPEN their totals
pub record HeldBreaker : Type 0 where
  pub config : ConfigParts
  pub standing : Standing
  pub window : SlidingWindow
  pub half_open : Totals
  pub held : ℕ

-- where a breaker stands, as the documented machine speaks of it: the notes of the period, the oldest first, and how many permissions of the period are held
pub record BreakerSituation : Type 0 where
  pub config : ConfigParts
  pub standing : Standing
  pub notes : List Note
  pub held : ℕ

-- by whether the breaker is in HALF_OPEN
abbrev pub KeepsIn : Bool → SlidingWindow → Totals → List Note → Type 0
KeepsIn true window half_open notes = half_open ≡ totals_of notes
KeepsIn false window half_open notes = KeepsNotes window notes

-- these are the notes of the period
abbrev pub Keeps : HeldBreaker → List Note → Type 0
Keeps breaker notes = KeepsIn (is_half_open breaker.standing.state) breaker.window breaker.half_open notes

-- a breaker stands so
pub record StandsFor (breaker : HeldBreaker) (s : BreakerSituation) : Type 0 where
  pub configured : breaker.config ≡ s.config
  pub standing : breaker.standing ≡ s.standing
  pub held : breaker.held ≡ s.held
  pub notes : Keeps breaker s.notes

abbrev pub HasRoomIn : Bool → SlidingWindow → Totals → Type 0
HasRoomIn true window half_open = AreTotals (2 ^ 64 - 9) half_open
HasRoomIn false window half_open = HasRoomInWindow window

-- one note more can be counted
abbrev pub HasRoom : HeldBreaker → Type 0
HasRoom breaker = HasRoomIn (is_half_open breaker.standing.state) breaker.window breaker.half_open

-- what is known of the parts of a breaker
pub record AreParts (config : ConfigParts) (window : SlidingWindow) (half_open : Totals) : Type 0 where
  pub configured : IsConfigured config window
  pub counted : AreTotals half_open.total half_open

-- right after a service opens: CLOSED, with no notes and no permission held
abbrev pub first_situation : ConfigParts → ℕ → ℕ → BreakerSituation
first_situation config period since = record { config = config; standing = record { state = state.Closed; period = period; since = since }; notes = []; held = 0 }
