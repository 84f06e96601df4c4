-- The configuration that is made of keys, and the default of each.
use Rattle.std.specs.Prelude.{Option, Some, None, Result, Ok, Err}
use Rattle.refusals.specs.declared.RefusalNumber.TheVariants as refusal
use Rattle.service_profile.specs.declared.configuration.BadConfig.{BadConfig}
use Rattle.service_profile.specs.declared.configuration.ConfigField.{ConfigField}
use Rattle.service_profile.specs.declared.configuration.ConfigParts.{ConfigParts}
use Rattle.service_profile.specs.declared.configuration.SlidingWindowType.TheVariants as window
use Rattle.service_profile.specs.Configuration.{bad_field}

-- what each key stands for where it is missing
abbrev pub default_parts : ConfigParts
default_parts = record {
  failure_rate_threshold = 50;
  slow_call_rate_threshold = 100;
  slow_call_duration_threshold = 60000;
  permitted_number_of_calls_in_half_open_state = 10;
  max_wait_duration_in_half_open_state = 0;
  sliding_window_type = window.CountBased;
  sliding_window_size = 100;
  minimum_number_of_calls = 100;
  wait_duration_in_open_state = 60000;
  max_concurrent_calls = 25;
  max_wait_duration = 0;
}

abbrev pub configured_by : ConfigParts → Option ConfigField → Result ConfigParts BadConfig
configured_by parts None = Ok parts
configured_by parts (Some bad) = Err (record { field = bad; number = refusal.BadConfig })

abbrev pub configured : ConfigParts → Result ConfigParts BadConfig
configured parts = configured_by parts (bad_field parts)
