-- The first fault of bytes that spell no program.
use Rattle.std.specs.Prelude.{ℕ, zero, suc, ◌*◌, ◌/◌, ◌%◌, ◌==◌, nat_lt, ◌&&◌, ◌||◌, not, Bool, true, false, if◌then◌else◌, List, [], ◌∷◌, length, drop, slice_get, slice_index, Option, Some, None, Result, Ok, Err}
use Rattle.byteorder.specs.Endian.{little_number}
use Rattle.refusals.specs.declared.RefusalNumber.{RefusalNumber}
use Rattle.refusals.specs.declared.RefusalNumber.TheVariants.{Length}
use Rattle.bpf_profile.specs.declared.instruction.Instruction.{Instruction}
use Rattle.bpf_profile.specs.declared.slot.Slot.{Slot}
use Rattle.bpf_profile.specs.declared.slot.Slot.TheVariants.{Ins, Tail}
use Rattle.bpf_profile.specs.Limits.{most_slots}
use Rattle.bpf_profile.specs.Slots.{instruction_of}
use Rattle.bpf_profile.specs.Spelling.{is_wide}

-- the slot that eight bytes are read as: a tail where the first four are 0, since no instruction has the opcode 0
abbrev pub slot_with : ℕ → ℕ → ℕ → ℕ → Slot
slot_with op registers off imm = if (op == 0) && ((registers == 0) && (off == 0)) then Tail imm else Ins op (registers % 16) (registers / 16) off imm

abbrev pub slot_at : List ℕ → Slot
slot_at bytes = slot_with (slice_index bytes 0) (slice_index bytes 1) (little_number 2 (drop 2 bytes)) (little_number 4 (drop 4 bytes))

-- so many slots, eight bytes each
unfoldable pub slots_at : ℕ → List ℕ → List Slot
slots_at zero bytes = []
slots_at (suc count) bytes = slot_at bytes ∷ slots_at count (drop 8 bytes)

-- why bytes spell no program, and at which slot
pub record Fault : Type 0 where
  pub slot : ℕ
  pub number : RefusalNumber

abbrev pub fault_or : ℕ → Result Instruction RefusalNumber → Option Fault → Option Fault
fault_or place (Ok instruction) later = later
fault_or place (Err number) later = Some (record { slot = place; number = number })

-- the first fault of the slots from this place on; of a slot that is the tail of a wide immediate nothing more is asked
unfoldable pub fault_from : ℕ → Bool → List Slot → Option Fault
fault_from place tail [] = None
fault_from place true (slot ∷ slots) = fault_from (suc place) false slots
fault_from place false (slot ∷ slots) = fault_or place (instruction_of slot (slice_get slots 0)) (fault_from (suc place) (is_wide slot) slots)

-- no bytes, no whole number of slots, or over 4,096 of them
abbrev pub is_bad_length : ℕ → Bool
is_bad_length count = (count == 0) || (not (count % 8 == 0) || nat_lt (8 * most_slots) count)

-- the first fault of bytes, in the order in which they are looked at: the length, then slot by slot
abbrev pub first_fault : List ℕ → Option Fault
first_fault bytes = if is_bad_length (length bytes) then Some (record { slot = 0; number = Length }) else fault_from 0 false (slots_at (length bytes / 8) bytes)
