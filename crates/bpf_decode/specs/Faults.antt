-- What decoding answers.
use Rattle.std.specs.Prelude.{◌≡◌, ◌⊎◌, ℕ, List, Option, Some, None, Result, Ok, Err}
use Rattle.refusals.specs.declared.RefusalNumber.TheVariants.{ProgramOutOfMemory}
use Rattle.bpf_profile.specs.SpellingFaults.{Fault, first_fault}
use Rattle.bpf_decode.specs.declared.error.DecodeError.{DecodeError}

-- the error that says that memory ran out
abbrev pub out_of_memory : DecodeError
out_of_memory = record { slot = 0; number = ProgramOutOfMemory }

abbrev pub fault_of : DecodeError → Fault
fault_of e = record { slot = e.slot; number = e.number }

-- the fault that a check found, if it found one
abbrev pub found_fault : {X : Type 0} → Result X DecodeError → Option Fault
found_fault (Ok x) = None
found_fault (Err e) = Some (fault_of e)

-- the error is the first fault of the bytes, or memory ran out
abbrev pub IsFirstFault : List ℕ → DecodeError → Type 0
IsFirstFault bytes e = (e ≡ out_of_memory) ⊎ (first_fault bytes ≡ Some (fault_of e))
