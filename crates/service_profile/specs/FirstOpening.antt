-- How a service opens first.
use Rattle.std.specs.Prelude.{ℕ}
use Rattle.bpf_profile.specs.Programs.{VerifiedProgram}
use Rattle.service_profile.specs.declared.configuration.ConfigParts.{ConfigParts}
use Rattle.service_profile.specs.Events.{Opening}

-- the first opening of a service whose first ticket has this number
abbrev pub first_opening_from : ℕ → ConfigParts → VerifiedProgram → Opening
first_opening_from ticket config program = record { config = config; program = program; version = 1; period = 1; ticket = ticket; line = 1; moment = 0 }

-- the first opening of a service whose tickets are numbered from 1
abbrev pub first_opening : ConfigParts → VerifiedProgram → Opening
first_opening config program = first_opening_from 1 config program
