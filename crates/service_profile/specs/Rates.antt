-- Rates of failures and of slow calls, and when a breaker trips (CircuitBreaker in the Resilience4j documentation: failure rate and slow call rate thresholds).
use Rattle.std.specs.Prelude.{ℕ, ◌*◌, ◌/◌, min, nat_le, nat_lt, ◌&&◌, ◌||◌, Bool, if◌then◌else◌, List, Option, Some, None}
use Rattle.service_profile.specs.declared.standings.Standing.{Standing}
use Rattle.service_profile.specs.declared.configuration.ConfigParts.{ConfigParts}
use Rattle.service_profile.specs.declared.states.State.{State}
use Rattle.service_profile.specs.declared.states.State.TheVariants as state
use Rattle.service_profile.specs.declared.notes.Note.{Note}
use Rattle.service_profile.specs.declared.notes.Totals.{Totals}
use Rattle.service_profile.specs.Configuration.{is_count_based}
use Rattle.service_profile.specs.Standings.{moved}
use Rattle.service_profile.specs.Windows.{totals_of, windowed}

-- a count-based window can't have more notes than its size
abbrev pub minimum_in_window : ConfigParts → ℕ
minimum_in_window config =
    if is_count_based config.sliding_window_type
    then min config.minimum_number_of_calls config.sliding_window_size
    else config.minimum_number_of_calls

-- the rates are used only where there are at least so many notes
abbrev pub minimum : ConfigParts → State → ℕ
minimum config state.HalfOpen = config.permitted_number_of_calls_in_half_open_state
minimum config other = minimum_in_window config

-- whether a part of the total reaches a threshold in percent
abbrev pub reaches : ℕ → ℕ → ℕ → Bool
reaches threshold total part = nat_le (threshold * total) (100 * part)

abbrev pub either_reaches : ConfigParts → Totals → Bool
either_reaches config totals = reaches config.failure_rate_threshold totals.total totals.failed || reaches config.slow_call_rate_threshold totals.total totals.slow

-- the standing after a note in a state, by the totals with that note
abbrev pub after_totals : ConfigParts → ℕ → Standing → State → Totals → Standing
after_totals config moment standing state.Closed totals =
    if nat_le (minimum config state.Closed) totals.total && either_reaches config totals then moved state.Open moment standing else standing
after_totals config moment standing state.HalfOpen totals =
    if nat_le (minimum config state.HalfOpen) totals.total
    then (if either_reaches config totals then moved state.Open moment standing else moved state.Closed moment standing)
    else standing
after_totals config moment standing other totals = standing

-- the standing after a note, which is the last of the period's notes
abbrev pub after_notes : ConfigParts → ℕ → Standing → List Note → Standing
after_notes config moment standing notes = after_totals config moment standing standing.state (totals_of (windowed config standing.state moment notes))

-- a rate in whole percent, rounded down; none below the minimum, and none of no notes
abbrev pub shown_rate : ℕ → ℕ → ℕ → Option ℕ
shown_rate least total part = if nat_le least total && nat_lt 0 total then Some (100 * part / total) else None
