-- Which bytes spell which program (RFC 9669, sections 3.1 and 3.2).
use Rattle.std.specs.Prelude.{◌≡◌, ℕ, suc, ◌+◌, ◌*◌, ◌^◌, ◌<◌, ◌≤◌, ◌==◌, Bool, true, false, List, ◌∷◌, ◌++◌, length, slice_get, Some, IsOk}
use Rattle.std.specs.List.{flat_map, AllByRecursion}
use Rattle.byteorder.specs.Endian.{little_bytes}
use Rattle.bpf_profile.specs.declared.slot.Slot.{Slot}
use Rattle.bpf_profile.specs.declared.slot.Slot.TheVariants.{Ins, Tail}
use Rattle.bpf_profile.specs.Limits.{most_slots}
use Rattle.bpf_profile.specs.Slots.{instruction_of}

-- the eight bytes of a slot: opcode, both registers in one byte, offset and immediate, the last two with their lowest byte first
abbrev pub slot_bytes : Slot → List ℕ
slot_bytes (Ins op dst src off imm) = op ∷ (dst + 16 * src) ∷ (little_bytes 2 off ++ little_bytes 4 imm)
slot_bytes (Tail imm) = 0 ∷ 0 ∷ (little_bytes 2 0 ++ little_bytes 4 imm)

-- the fields fit in their bits
abbrev pub IsSlot : Slot → Type 0
IsSlot (Ins op dst src off imm) = (op < 2 ^ 8) × (dst < 2 ^ 4) × (src < 2 ^ 4) × (off < 2 ^ 16) × (imm < 2 ^ 32)
IsSlot (Tail imm) = imm < 2 ^ 32

abbrev pub is_tail : Slot → Bool
is_tail (Ins op dst src off imm) = false
is_tail (Tail imm) = true

-- the first slot of a wide immediate
abbrev pub is_wide : Slot → Bool
is_wide (Ins op dst src off imm) = op == 24
is_wide (Tail imm) = false

-- a wide immediate stands right before this place
abbrev pub FollowsWide : List Slot → ℕ → Type 0
FollowsWide slots place = (before : ℕ) × (wide : Slot) × (place ≡ suc before) × (slice_get slots before ≡ Some wide) × (is_wide wide ≡ true)

-- 1 to 4,096 slots, each an instruction of the profile or a tail, where a tail stands after each wide immediate and nowhere else
pub record IsProgram (slots : List Slot) : Type 0 where
  pub some : 0 < length slots
  pub few : length slots ≤ most_slots
  pub fields : AllByRecursion IsSlot slots
  pub instructions : (place : ℕ) (slot : Slot) → slice_get slots place ≡ Some slot → is_tail slot ≡ false → IsOk (instruction_of slot (slice_get slots (suc place)))
  pub tails : (place high : ℕ) → slice_get slots place ≡ Some (Tail high) → FollowsWide slots place

pub record Spells (bytes : List ℕ) (slots : List Slot) : Type 0 where
  pub program : IsProgram slots
  pub text : bytes ≡ flat_map slot_bytes slots
