-- The configuration of a service (the configuration properties of CircuitBreaker and Bulkhead in the Resilience4j documentation), with the ranges that this product takes.
use Rattle.std.specs.Prelude.{◌≡◌, ℕ, ◌^◌, nat_le, ◌&&◌, Bool, true, false, if◌then◌else◌, Option, Some, None}
use Rattle.service_profile.specs.declared.configuration.ConfigField.{ConfigField}
use Rattle.service_profile.specs.declared.configuration.ConfigField.TheVariants as field
use Rattle.service_profile.specs.declared.configuration.ConfigParts.{ConfigParts}
use Rattle.service_profile.specs.declared.configuration.Range.{Range}
use Rattle.service_profile.specs.declared.configuration.SlidingWindowType.{SlidingWindowType}
use Rattle.service_profile.specs.declared.configuration.SlidingWindowType.TheVariants as window

abbrev pub is_within : ℕ → ℕ → ℕ → Bool
is_within least most number = nat_le least number && nat_le number most

abbrev pub is_count_based : SlidingWindowType → Bool
is_count_based window.CountBased = true
is_count_based window.TimeBased = false

-- the greatest size of a window, in calls or in seconds
abbrev pub most_size : SlidingWindowType → ℕ
most_size window.CountBased = 10000
most_size window.TimeBased = 3600

abbrev pub from_to : ℕ → ℕ → Option Range
from_to least most = Some (record { least = least; most = most })

-- the range of each number, beside a window of this type; the type itself has none
abbrev pub range_of : ConfigField → SlidingWindowType → Option Range
range_of field.FailureRateThreshold type = from_to 1 100
range_of field.SlowCallRateThreshold type = from_to 1 100
range_of field.SlowCallDurationThreshold type = from_to 1 (2 ^ 32)
range_of field.PermittedNumberOfCallsInHalfOpenState type = from_to 1 10000
range_of field.MaxWaitDurationInHalfOpenState type = from_to 0 (2 ^ 40)
range_of field.SlidingWindowType type = None
range_of field.SlidingWindowSize type = from_to 1 (most_size type)
range_of field.MinimumNumberOfCalls type = from_to 1 1000000
range_of field.WaitDurationInOpenState type = from_to 1 (2 ^ 40)
range_of field.MaxConcurrentCalls type = from_to 1 10000
range_of field.MaxWaitDuration type = from_to 0 0

abbrev pub is_in : Option Range → ℕ → Bool
is_in None number = true
is_in (Some range) number = is_within range.least range.most number

-- the field where its value is out of range, else a later field that is
abbrev pub checked : Bool → ConfigField → Option ConfigField → Option ConfigField
checked good field later = if good then later else Some field

abbrev pub bad_limit : ConfigParts → Option ConfigField
bad_limit parts =
    checked (is_in (range_of field.SlidingWindowSize parts.sliding_window_type) parts.sliding_window_size) field.SlidingWindowSize
    (checked (is_in (range_of field.MinimumNumberOfCalls parts.sliding_window_type) parts.minimum_number_of_calls) field.MinimumNumberOfCalls
    (checked (is_in (range_of field.WaitDurationInOpenState parts.sliding_window_type) parts.wait_duration_in_open_state) field.WaitDurationInOpenState
    (checked (is_in (range_of field.MaxConcurrentCalls parts.sliding_window_type) parts.max_concurrent_calls) field.MaxConcurrentCalls
    (checked (is_in (range_of field.MaxWaitDuration parts.sliding_window_type) parts.max_wait_duration) field.MaxWaitDuration None))))

-- the first field whose value is out of range
abbrev pub bad_field : ConfigParts → Option ConfigField
bad_field parts =
    checked (is_in (range_of field.FailureRateThreshold parts.sliding_window_type) parts.failure_rate_threshold) field.FailureRateThreshold
    (checked (is_in (range_of field.SlowCallRateThreshold parts.sliding_window_type) parts.slow_call_rate_threshold) field.SlowCallRateThreshold
    (checked (is_in (range_of field.SlowCallDurationThreshold parts.sliding_window_type) parts.slow_call_duration_threshold) field.SlowCallDurationThreshold
    (checked (is_in (range_of field.PermittedNumberOfCallsInHalfOpenState parts.sliding_window_type) parts.permitted_number_of_calls_in_half_open_state) field.PermittedNumberOfCallsInHalfOpenState
    (checked (is_in (range_of field.MaxWaitDurationInHalfOpenState parts.sliding_window_type) parts.max_wait_duration_in_half_open_state) field.MaxWaitDurationInHalfOpenState
    (bad_limit parts)))))

abbrev pub IsInRange : ConfigParts → Type 0
IsInRange parts = bad_field parts ≡ None
