-- Where a history may begin: with a configuration in range, and numbers that leave room.
use Rattle.std.specs.Prelude.{◌^◌, ◌<◌, ◌≤◌}
use Rattle.service_profile.specs.Limits.{greatest_number}
use Rattle.service_profile.specs.Configuration.{IsInRange}
use Rattle.service_profile.specs.Events.{Opening}

-- an opening whose configuration is in range, and whose numbers begin at 1 or later and leave room
pub record IsOpening (opening : Opening) : Type 0 where
  pub config : IsInRange opening.config
  pub version : opening.version ≤ greatest_number
  pub first_version : 1 ≤ opening.version
  pub period : opening.period ≤ greatest_number
  pub first_period : 1 ≤ opening.period
  pub ticket : opening.ticket ≤ greatest_number
  pub first_ticket : 1 ≤ opening.ticket
  pub line : opening.line ≤ greatest_number
  pub first_line : 1 ≤ opening.line
  pub moment : opening.moment < 2 ^ 64
