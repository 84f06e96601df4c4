-- What is refused by the flow of a program, before any value is looked at. All jumps go forward.
use Rattle.std.specs.Prelude.{ℕ, zero, suc, ◌^◌, ◌==◌, nat_le, ◌||◌, Bool, false, if◌then◌else◌, List, length, slice_get, Option, Some, None, option_map}
use Rattle.std.specs.List.{list_any}
use Rattle.std.specs.Option.{option_or, option_map_or}
use Rattle.refusals.specs.declared.RefusalNumber.{RefusalNumber}
use Rattle.refusals.specs.declared.RefusalNumber.TheVariants.{BackJump, JumpOut, IntoTail, FallsOff, Unreachable}
use Rattle.bpf_profile.specs.declared.instruction.Instruction.{Instruction}
use Rattle.bpf_profile.specs.declared.slot.Slot.{Slot}
use Rattle.bpf_profile.specs.Machine.{target_of}
use Rattle.bpf_profile.specs.Meaning.{instruction_at}
use Rattle.bpf_profile.specs.Spelling.{is_tail}
use Rattle.bpf_profile.specs.SpellingFaults.{Fault}
use Rattle.bpf_profile.specs.Flow.{next_of, distance_of, successors}

-- whether an edge comes in from one of the first so many slots
abbrev pub is_entered_from : List Slot → ℕ → ℕ → Bool
is_entered_from slots place zero = false
is_entered_from slots place (suc count) = list_any (λ to. to == place) (successors slots count) || is_entered_from slots place count

abbrev pub is_entered : List Slot → ℕ → Bool
is_entered slots place = (place == 0) || is_entered_from slots place (length slots)

abbrev pub is_tail_at : List Slot → ℕ → Bool
is_tail_at slots place = option_map_or is_tail (slice_get slots place) false

-- a jump goes forward, to an instruction of the program
abbrev pub jump_fault : List Slot → ℕ → ℕ → Option RefusalNumber
jump_fault slots place distance =
    if nat_le (2 ^ 63) distance then Some BackJump
    else (if nat_le (length slots) (target_of place distance) then Some JumpOut
    else (if is_tail_at slots (target_of place distance) then Some IntoTail
    else None))

abbrev pub next_fault : List Slot → ℕ → Option RefusalNumber
next_fault slots next = if nat_le (length slots) next then Some FallsOff else None

-- what is wrong with an instruction, the first in the order in which it is tried
abbrev pub flow_fault_of : List Slot → ℕ → Instruction → Option RefusalNumber
flow_fault_of slots place i =
    if is_entered slots place
    then option_or (option_map_or (jump_fault slots place) (distance_of i) None) (option_map_or (next_fault slots) (next_of place i) None)
    else Some Unreachable

unfoldable pub flow_fault_at : List Slot → ℕ → Option RefusalNumber
flow_fault_at slots place = option_map_or (flow_fault_of slots place) (instruction_at slots place) None

-- the least of the slots from a place on, so many, that has a fault
unfoldable pub flow_fault_from : List Slot → ℕ → ℕ → Option Fault
flow_fault_from slots place zero = None
flow_fault_from slots place (suc count) = option_or (option_map (λ number. record { slot = place; number = number }) (flow_fault_at slots place)) (flow_fault_from slots (suc place) count)

-- the refusal of a program by its flow; None where it is accepted
abbrev pub flow_fault : List Slot → Option Fault
flow_fault slots = flow_fault_from slots 0 (length slots)
