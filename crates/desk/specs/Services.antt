-- The services that a desk opens.
use Rattle.std.specs.Prelude.{ℕ, List, String, string_bytes}
use Rattle.std.specs.Global.{Global}
use Rattle.bpf_profile.specs.Programs.{VerifiedProgram}
use Rattle.service_profile.specs.declared.configuration.Config.{Config}
use Rattle.service_profile.specs.declared.configuration.ConfigParts.{ConfigParts}
use Rattle.verifier.specs.declared.verified.Verified.{Verified}

-- a service: its name, its configuration, its first program, and the number of its first ticket
pub record ServiceData : Type 0 where
  pub name : List ℕ
  pub config : ConfigParts
  pub program : VerifiedProgram
  pub ticket : ℕ

-- the service that is opened by these, whose first ticket has this number
abbrev pub service_from : ℕ → String Global × Config × Verified → ServiceData
service_from ticket opening = record { name = string_bytes opening.0; config = opening.1; program = opening.2; ticket = ticket }

-- the same, whose tickets are numbered from 1
abbrev pub service_of : String Global × Config × Verified → ServiceData
service_of opening = service_from 1 opening
