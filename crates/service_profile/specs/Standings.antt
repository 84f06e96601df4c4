-- Where a breaker stands, and its transitions.
use Rattle.std.specs.Prelude.{ℕ, suc, Bool, true, false}
use Rattle.service_profile.specs.declared.standings.Standing.{Standing}
use Rattle.service_profile.specs.declared.states.State.{State}
use Rattle.service_profile.specs.declared.states.State.TheVariants as state

-- every transition, also to the same state, starts the next period at its moment
abbrev pub moved : State → ℕ → Standing → Standing
moved state moment standing = record { state = state; period = suc standing.period; since = moment }

abbrev pub is_half_open : State → Bool
is_half_open state.HalfOpen = true
is_half_open other = false

abbrev pub is_disabled : State → Bool
is_disabled state.Disabled = true
is_disabled other = false
