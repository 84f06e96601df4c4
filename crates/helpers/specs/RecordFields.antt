-- What contracts see of a record.
use Rattle.bpf_profile.specs.Outcomes.{Outcome}
use Rattle.helpers.specs.declared.«record».Record.TheInside.{Inside}

abbrev pub outcome_in : Inside → Outcome
outcome_in inside = record { context = inside.context; facts = inside.facts; tag = inside.tag }
