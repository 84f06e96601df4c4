-- Soundness of loads and stores: what the machine makes of a stack that abstract cells describe.
use Rattle.std.specs.Prelude.{◌≡◌, ℕ, ◌*◌, ◌/◌, ◌%◌, ◌^◌, ◌<◌, true, List, length, take, drop, slice_get, Some, Result, Ok}
use Rattle.abs_domain.specs.declared.domain.Domain.{Ghosts}
use Rattle.abs_regs.specs.Values.{IsAs}
use Rattle.bpf_profile.specs.declared.machine.Cell.{Cell as Byte}
use Rattle.bpf_profile.specs.declared.machine.Cell.TheVariants as byte
use Rattle.bpf_profile.specs.declared.machine.TrapReason.{TrapReason}
use Rattle.bpf_profile.specs.declared.machine.Value.{Value}
use Rattle.bpf_profile.specs.declared.instruction.Extension.{Extension}
use Rattle.bpf_profile.specs.declared.instruction.Size.{Size}
use Rattle.bpf_profile.specs.Limits.{stack_size}
use Rattle.bpf_profile.specs.Machine.{State, Address, ◌>>=◌, is_stack, place_for, loaded, cells_of, overwritten}
use Rattle.bpf_profile.specs.Outcomes.{Outcome}
use Rattle.bpf_profile.specs.Words.{bytes_in}
use Rattle.stack_track.specs.declared.cell.Cell.{Cell}
use Rattle.stack_track.specs.declared.cell.Cell.TheVariants as cell
use Rattle.stack_track.specs.Cells.{cell_in}

-- byte j of these holds a number
abbrev pub HoldsByte : List Byte → ℕ → Type 0
HoldsByte bytes j = (b : ℕ) × (slice_get bytes j ≡ Some (byte.Byte b)) × (b < 2 ^ 8)

-- an abstract cell describes eight bytes of the stack
abbrev pub IsCell : {X : Type 0} → Ghosts X → Cell X → List Byte → Type 0
IsCell domain (cell.Bytes mask) bytes = (j : ℕ) → j < 8 → mask / 2 ^ j % 2 ≡ 1 → HoldsByte bytes j
IsCell domain (cell.Kept a) bytes = (v : Value) × (cells_of 8 v ≡ Ok bytes) × IsAs domain a v

-- abstract cells describe the 512 bytes of the stack, eight bytes each
pub record AreCells {X : Type 0} (domain : Ghosts X) (cells : List (Cell X)) (stack : List Byte) : Type 0 where
  pub size : length stack ≡ stack_size
  pub each : (k : ℕ) → k < 64 → IsCell domain (cell_in cells k) (take 8 (drop (8 * k) stack))

-- what the machine loads from a place
abbrev pub loaded_from : ℕ → Outcome → State → Address → Extension → Size → Result Value TrapReason
loaded_from context outcome s at extension size = place_for context (bytes_in size) at >>= (λ place. loaded outcome s extension (bytes_in size) at.region place)

-- the machine's store of a value at a place doesn't trap, and leaves a stack that the abstract cells describe
pub record Stores {X : Type 0} (domain : Ghosts X) (cells : List (Cell X)) (context : ℕ) (stack : List Byte) (at : Address) (size : Size) (v : Value) : Type 0 where
  pub place : ℕ
  pub bytes : List Byte
  pub writable : is_stack at.region ≡ true
  pub placed : place_for context (bytes_in size) at ≡ Ok place
  pub spelled : cells_of (bytes_in size) v ≡ Ok bytes
  pub after : AreCells domain cells (overwritten stack place bytes)
