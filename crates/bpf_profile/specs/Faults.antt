-- What the first fault of a program is, said of its slots: each slot has a fault or none, and the least slot with one comes first.
use Rattle.std.specs.Prelude.{◌≡◌, ℕ, zero, suc, ◌/◌, ◌<◌, Bool, false, if◌then◌else◌, List, length, slice_get, Option, Some, None, option_and_then}
use Rattle.std.specs.Option.{option_map_or}
use Rattle.std.specs.Result.{result_err}
use Rattle.refusals.specs.declared.RefusalNumber.{RefusalNumber}
use Rattle.bpf_profile.specs.declared.slot.Slot.{Slot}
use Rattle.bpf_profile.specs.Slots.{instruction_of}
use Rattle.bpf_profile.specs.Spelling.{is_wide}
use Rattle.bpf_profile.specs.SpellingFaults.{Fault, slots_at}

-- of the first so many slots, this is the least that has a fault, and this is its fault
pub record IsLeastFault (fault_at : ℕ → Option RefusalNumber) (count : ℕ) (fault : Fault) : Type 0 where
  pub within : fault.slot < count
  pub here : fault_at fault.slot ≡ Some fault.number
  pub before : (place : ℕ) → place < fault.slot → fault_at place ≡ None

-- none of the first so many slots has a fault
abbrev pub IsFaultless : (ℕ → Option RefusalNumber) → ℕ → Type 0
IsFaultless fault_at count = (place : ℕ) → place < count → fault_at place ≡ None

-- ---- the fault of a slot where bytes are decoded

-- the slot right before this place is the first of a wide immediate
abbrev pub follows_wide : List Slot → ℕ → Bool
follows_wide slots zero = false
follows_wide slots (suc before) = option_map_or is_wide (slice_get slots before) false

-- a slot has the fault for which it stands for no instruction; but the second slot of a wide immediate has none, since it begins no instruction
abbrev pub decoding_fault_at : List Slot → ℕ → Option RefusalNumber
decoding_fault_at slots place =
    if follows_wide slots place then None
    else option_and_then (λ slot. result_err (instruction_of slot (slice_get slots (suc place)))) (slice_get slots place)

-- the slots that bytes are read as, eight bytes each
abbrev pub slots_of : List ℕ → List Slot
slots_of bytes = slots_at (length bytes / 8) bytes
