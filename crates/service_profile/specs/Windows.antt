-- Notes of calls, and the sliding windows over them (CircuitBreaker in the Resilience4j documentation: count-based and time-based sliding window).
use Rattle.std.specs.Prelude.{ℕ, ◌+◌, ◌-◌, ◌/◌, nat_lt, Bool, if◌then◌else◌, List, length, drop}
use Rattle.std.specs.List.{filter}
use Rattle.service_profile.specs.declared.configuration.ConfigParts.{ConfigParts}
use Rattle.service_profile.specs.declared.states.State.{State}
use Rattle.service_profile.specs.declared.states.State.TheVariants as state
use Rattle.service_profile.specs.declared.notes.Note.{Note}
use Rattle.service_profile.specs.declared.notes.Totals.{Totals}
use Rattle.service_profile.specs.Configuration.{is_count_based}

abbrev pub second_of : ℕ → ℕ
second_of moment = moment / 1000

-- the last elements, so many
abbrev pub last : {A : Type 0} → ℕ → List A → List A
last count xs = drop (length xs - count) xs

-- whether a note still counts in a window of so many seconds
abbrev pub is_recent : ℕ → ℕ → Note → Bool
is_recent seconds now note = nat_lt (second_of now) (second_of note.moment + seconds)

abbrev pub in_window : ConfigParts → ℕ → List Note → List Note
in_window config now notes =
    if is_count_based config.sliding_window_type
    then last config.sliding_window_size notes
    else filter (is_recent config.sliding_window_size now) notes

-- the notes of a period that count at a moment: all of them in HALF_OPEN
abbrev pub windowed : ConfigParts → State → ℕ → List Note → List Note
windowed config state.HalfOpen now notes = notes
windowed config other now notes = in_window config now notes

abbrev pub totals_of : List Note → Totals
totals_of notes = record {
  total = length notes;
  failed = length (filter (λ note. note.failed) notes);
  slow = length (filter (λ note. note.slow) notes);
}
