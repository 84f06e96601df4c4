-- What the ranges of a configuration say.
use Rattle.std.proofs.Common.{◌≡◌, ℕ, ◌≤◌, nat_le, ◌&&◌, ◌^◌, Bool, true, Option, None, rules}
use Rattle.service_profile.specs.declared.configuration.ConfigField.{ConfigField}
use Rattle.service_profile.specs.declared.configuration.ConfigParts.{ConfigParts}
use Rattle.service_profile.specs.Configuration.{checked, bad_field, bad_limit, is_within, most_size}
use Rattle.std.proofs.lemmas.Bool.{leb-true}

-- where nothing is bad, neither this field nor a later one is
good_field : (good : Bool) (field : ConfigField) (later : Option ConfigField) → checked good field later ≡ None → (good ≡ true) × (later ≡ None)
good_field good field later e = search rules

pub record Ranges (parts : ConfigParts) : Type 0 where
  pub rate : is_within 1 100 parts.failure_rate_threshold ≡ true
  pub slow_rate : is_within 1 100 parts.slow_call_rate_threshold ≡ true
  pub duration : is_within 1 (2 ^ 32) parts.slow_call_duration_threshold ≡ true
  pub permitted : is_within 1 10000 parts.permitted_number_of_calls_in_half_open_state ≡ true
  pub stay : is_within 0 (2 ^ 40) parts.max_wait_duration_in_half_open_state ≡ true
  pub limits : bad_limit parts ≡ None
  pub size : is_within 1 (most_size parts.sliding_window_type) parts.sliding_window_size ≡ true

pub ranges : (parts : ConfigParts) → bad_field parts ≡ None → Ranges parts
ranges parts e = search (rules, good_field)

and_left : (a b : Bool) → (a && b) ≡ true → a ≡ true
and_left a b e = search rules

pub within_least : (least most number : ℕ) → is_within least most number ≡ true → least ≤ number
within_least least most number e = leb-true least number (and_left (nat_le least number) (nat_le number most) e)

-- no more calls run at once
pub few_places : (parts : ConfigParts) → bad_field parts ≡ None → parts.max_concurrent_calls ≤ 10000
few_places parts e = search rules
