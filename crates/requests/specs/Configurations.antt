-- The configuration that a JSON object describes (the configuration properties of CircuitBreaker and Bulkhead in the Resilience4j documentation, with their defaults), or the first mistake in it.
use Rattle.std.specs.Prelude.{ℕ, List, [], ◌∷◌, Bool, Option, Some, None, Result, Ok, Err, option_and_then, if◌then◌else◌, codes}
use Rattle.std.specs.Option.{ok_or}
use Rattle.std.specs.Str.{bytes_eq}
use Rattle.std.specs.Result.{result_ok}
use Rattle.serde_json.specs.Data.{Data}
use Rattle.serde_json.specs.Find.{get, as_str}
use Rattle.texts.specs.Outcomes.{if_there}
use Rattle.service_profile.specs.declared.configuration.BadConfig.{BadConfig}
use Rattle.service_profile.specs.declared.configuration.ConfigField.{ConfigField}
use Rattle.service_profile.specs.declared.configuration.ConfigField.TheVariants as field
use Rattle.service_profile.specs.declared.configuration.ConfigParts.{ConfigParts}
use Rattle.service_profile.specs.declared.configuration.SlidingWindowType.{SlidingWindowType}
use Rattle.service_profile.specs.declared.configuration.SlidingWindowType.TheVariants as window
use Rattle.service_profile.specs.Configured.{configured, default_parts}
use Rattle.texts.specs.JsonText.{json_of}
use Rattle.requests.specs.declared.configurations.ConfigMistake.{ConfigMistake}
use Rattle.requests.specs.declared.configurations.ConfigMistake.TheVariants as mistake
use Rattle.requests.specs.Keys.{is_one_of, has_known_keys}
use Rattle.requests.specs.Values.{number_or}

-- ---- keys

abbrev pub key_of : ConfigField → List ℕ
key_of field.FailureRateThreshold = codes "failureRateThreshold"
key_of field.SlowCallRateThreshold = codes "slowCallRateThreshold"
key_of field.SlowCallDurationThreshold = codes "slowCallDurationThreshold"
key_of field.PermittedNumberOfCallsInHalfOpenState = codes "permittedNumberOfCallsInHalfOpenState"
key_of field.MaxWaitDurationInHalfOpenState = codes "maxWaitDurationInHalfOpenState"
key_of field.SlidingWindowType = codes "slidingWindowType"
key_of field.SlidingWindowSize = codes "slidingWindowSize"
key_of field.MinimumNumberOfCalls = codes "minimumNumberOfCalls"
key_of field.WaitDurationInOpenState = codes "waitDurationInOpenState"
key_of field.MaxConcurrentCalls = codes "maxConcurrentCalls"
key_of field.MaxWaitDuration = codes "maxWaitDuration"

-- the key of some field
abbrev pub is_config_key : List ℕ → Bool
is_config_key = is_one_of (key_of field.FailureRateThreshold
    ∷ key_of field.SlowCallRateThreshold
    ∷ key_of field.SlowCallDurationThreshold
    ∷ key_of field.PermittedNumberOfCallsInHalfOpenState
    ∷ key_of field.MaxWaitDurationInHalfOpenState
    ∷ key_of field.SlidingWindowType
    ∷ key_of field.SlidingWindowSize
    ∷ key_of field.MinimumNumberOfCalls
    ∷ key_of field.WaitDurationInOpenState
    ∷ key_of field.MaxConcurrentCalls
    ∷ key_of field.MaxWaitDuration ∷ [])

-- ---- values

abbrev pub window_named : List ℕ → Option SlidingWindowType
window_named name =
    if bytes_eq name (codes "COUNT_BASED") then Some window.CountBased
    else (if bytes_eq name (codes "TIME_BASED") then Some window.TimeBased
    else None)

-- count-based where the key is missing
abbrev pub window_at : Data → Option SlidingWindowType
window_at d = if_there default_parts.sliding_window_type (λ v. option_and_then window_named (as_str v)) (get (codes "slidingWindowType") d)

-- the second step, where the first gave a value
infixl 10 ◌>>=◌
abbrev pub ◌>>=◌ : {A B E : Type 0} → Result A E → (A → Result B E) → Result B E
Ok a >>= f = f a
Err e >>= f = Err e

-- the number of a field, by default this one
abbrev pub number_of : ConfigField → ℕ → Data → Result ℕ ConfigMistake
number_of field default d = ok_or (number_or default (key_of field) d) (mistake.BadValue field)

-- the values, key by key, each by default that of the defaults, or the first field with a value of the wrong kind
unfoldable pub parts_of : Data → Result ConfigParts ConfigMistake
parts_of d = do
  failure_rate ← number_of field.FailureRateThreshold default_parts.failure_rate_threshold d
  slow_rate ← number_of field.SlowCallRateThreshold default_parts.slow_call_rate_threshold d
  slow_duration ← number_of field.SlowCallDurationThreshold default_parts.slow_call_duration_threshold d
  permitted ← number_of field.PermittedNumberOfCallsInHalfOpenState default_parts.permitted_number_of_calls_in_half_open_state d
  half_open ← number_of field.MaxWaitDurationInHalfOpenState default_parts.max_wait_duration_in_half_open_state d
  window ← ok_or (window_at d) (mistake.BadValue field.SlidingWindowType)
  size ← number_of field.SlidingWindowSize default_parts.sliding_window_size d
  least ← number_of field.MinimumNumberOfCalls default_parts.minimum_number_of_calls d
  stay ← number_of field.WaitDurationInOpenState default_parts.wait_duration_in_open_state d
  calls ← number_of field.MaxConcurrentCalls default_parts.max_concurrent_calls d
  wait ← number_of field.MaxWaitDuration default_parts.max_wait_duration d
  Ok (record { failure_rate_threshold = failure_rate; slow_call_rate_threshold = slow_rate; slow_call_duration_threshold = slow_duration; permitted_number_of_calls_in_half_open_state = permitted; max_wait_duration_in_half_open_state = half_open; sliding_window_type = window; sliding_window_size = size; minimum_number_of_calls = least; wait_duration_in_open_state = stay; max_concurrent_calls = calls; max_wait_duration = wait })

-- ---- the whole

abbrev pub or_bad : Result ConfigParts BadConfig → Result ConfigParts ConfigMistake
or_bad (Ok parts) = Ok parts
or_bad (Err bad) = Err (mistake.BadValue bad.field)

-- the configuration, each value in its range; or the first mistake: that the value is no object or has a key that is not known, then a value of the wrong kind, then a value out of its range
unfoldable pub read_config : Data → Result ConfigParts ConfigMistake
read_config d = if has_known_keys is_config_key d then (parts_of d >>= λ parts. or_bad (configured parts)) else Err mistake.Keys

-- the configuration, where there is no mistake
abbrev pub config_of : Data → Option ConfigParts
config_of d = result_ok (read_config d)

-- the same of JSON text
abbrev pub config_in : List ℕ → Option ConfigParts
config_in text = option_and_then config_of (json_of text)
