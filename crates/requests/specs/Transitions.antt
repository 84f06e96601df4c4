-- The state that a JSON object names.
use Rattle.std.specs.Prelude.{ℕ, List, Option, Some, None, option_and_then, if◌then◌else◌, codes}
use Rattle.std.specs.Str.{bytes_eq}
use Rattle.serde_json.specs.Data.{Data}
use Rattle.service_profile.specs.declared.states.State.{State}
use Rattle.service_profile.specs.declared.states.State.TheVariants as state
use Rattle.requests.specs.Values.{text_at}

-- the states by the names that the Resilience4j documentation gives them
unfoldable pub state_named : List ℕ → Option State
state_named name =
    if bytes_eq name (codes "CLOSED") then Some state.Closed
    else (if bytes_eq name (codes "OPEN") then Some state.Open
    else (if bytes_eq name (codes "HALF_OPEN") then Some state.HalfOpen
    else (if bytes_eq name (codes "DISABLED") then Some state.Disabled
    else (if bytes_eq name (codes "METRICS_ONLY") then Some state.MetricsOnly
    else (if bytes_eq name (codes "FORCED_OPEN") then Some state.ForcedOpen
    else None)))))

-- None where the state is missing, no text or another name
abbrev pub state_of : Data → Option State
state_of d = option_and_then state_named (text_at (codes "state") d)
