-- The refusals that the check answers with.
use Rattle.refusals.specs.declared.RefusalNumber.TheVariants.{ProgramOutOfMemory}
use Rattle.bpf_profile.specs.SpellingFaults.{Fault}
use Rattle.flow_check.specs.declared.error.FlowError.{FlowError}

-- the answer where memory ran out
abbrev pub out_of_memory : FlowError
out_of_memory = record { slot = 0; number = ProgramOutOfMemory }

-- which fault an error names
abbrev pub fault_of : FlowError → Fault
fault_of e = record { slot = e.slot; number = e.number }
