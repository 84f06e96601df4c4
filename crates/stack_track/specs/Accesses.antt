-- What loads and stores make of abstract values and cells, or the first check that they fail (RFC 9669, section 5).
use Rattle.std.specs.Prelude.{ℕ, zero, suc, ◌+◌, ◌/◌, ◌%◌, ◌==◌, nat_le, ◌&&◌, Bool, true, if◌then◌else◌, List, slice_set, bit_or, Result, Ok, Err}
use Rattle.refusals.specs.declared.RefusalNumber.{RefusalNumber}
use Rattle.refusals.specs.declared.RefusalNumber.TheVariants as refusal
use Rattle.abs_domain.specs.declared.domain.Domain.{Ghosts}
use Rattle.abs_domain.specs.declared.operations.Conversion.TheVariants as conversion
use Rattle.abs_regs.specs.declared.address.Address.{Address}
use Rattle.abs_regs.specs.declared.address.Address.TheVariants as address
use Rattle.abs_regs.specs.declared.value.AbsVal.{AbsVal}
use Rattle.abs_regs.specs.declared.value.AbsVal.TheVariants as known
use Rattle.abs_regs.specs.Transfers.{◌>>=◌}
use Rattle.bpf_profile.specs.declared.instruction.Extension.{Extension}
use Rattle.bpf_profile.specs.declared.instruction.Extension.TheVariants as extension
use Rattle.bpf_profile.specs.declared.instruction.Size.{Size}
use Rattle.bpf_profile.specs.declared.instruction.Size.TheVariants as size
use Rattle.bpf_profile.specs.declared.machine.Region.TheVariants as region
use Rattle.bpf_profile.specs.Limits.{stack_size}
use Rattle.bpf_profile.specs.Machine.{place_of}
use Rattle.bpf_profile.specs.Words.{bytes_in}
use Rattle.stack_track.specs.declared.cell.Cell.{Cell}
use Rattle.stack_track.specs.declared.cell.Cell.TheVariants as cell
use Rattle.stack_track.specs.Cells.{mask_of, cell_in, bits_at, are_set}

-- any number of so many bytes, extended
abbrev pub any_loaded : {X : Type 0} → Ghosts X → Extension → Size → X
any_loaded domain extension.Zero size = domain.converted conversion.Low size domain.of_any
any_loaded domain extension.Sign size = domain.converted conversion.SignExtended size (domain.converted conversion.Low size domain.of_any)

-- how many low bits of an aligned address are 0
abbrev pub zeros_of : Size → ℕ
zeros_of size.Byte = 0
zeros_of size.HalfWord = 1
zeros_of size.Word = 2
zeros_of size.DoubleWord = 3

-- ---- the context, of so many bytes

abbrev pub load_context : {X : Type 0} → Ghosts X → ℕ → X → Extension → Size → Result (AbsVal X) RefusalNumber
load_context domain context offset extension size =
    if domain.has_low_zeros offset (zeros_of size)
    then (if nat_le ((domain.bounds_of offset).high + bytes_in size) context then Ok (known.Number (any_loaded domain extension size)) else Err refusal.OutOfBounds)
    else Err refusal.Misaligned

-- ---- the stack

-- how many bytes of the stack lie before an access
abbrev pub stack_place : ℕ → Size → Result ℕ RefusalNumber
stack_place offset size =
    if offset % bytes_in size == 0
    then (if nat_le (place_of region.Stack offset + bytes_in size) stack_size then Ok (place_of region.Stack offset) else Err refusal.OutOfBounds)
    else Err refusal.Misaligned

-- the eight bytes of a cell
abbrev pub whole_cell : {X : Type 0} → Ghosts X → Cell X → Result (AbsVal X) RefusalNumber
whole_cell domain (cell.Kept a) = Ok a
whole_cell domain (cell.Bytes mask) = if mask == 255 then Ok (known.Number domain.of_any) else Err refusal.UnsetStack

abbrev pub bytes_of_mask : {X : Type 0} → Ghosts X → ℕ → ℕ → Extension → Size → Result (AbsVal X) RefusalNumber
bytes_of_mask domain mask place extension size = if are_set mask place (bytes_in size) then Ok (known.Number (any_loaded domain extension size)) else Err refusal.UnsetStack

-- fewer bytes of a cell, of which a pointer has none
abbrev pub part_of_cell : {X : Type 0} → Ghosts X → Cell X → ℕ → Extension → Size → Result (AbsVal X) RefusalNumber
part_of_cell domain (cell.Kept (known.Stack offset)) place extension size = Err refusal.PointerUsed
part_of_cell domain (cell.Kept (known.Context a)) place extension size = Err refusal.PointerUsed
part_of_cell domain c place extension size = bytes_of_mask domain (mask_of c) place extension size

abbrev pub load_cell : {X : Type 0} → Ghosts X → Cell X → ℕ → Extension → Size → Result (AbsVal X) RefusalNumber
load_cell domain c place extension size.DoubleWord = whole_cell domain c
load_cell domain c place extension size = part_of_cell domain c place extension size

abbrev pub load_stack : {X : Type 0} → Ghosts X → List (Cell X) → ℕ → Extension → Size → Result (AbsVal X) RefusalNumber
load_stack domain cells offset extension size = stack_place offset size >>= (λ place. load_cell domain (cell_in cells (place / 8)) place extension size)

abbrev pub load_at : {X : Type 0} → Ghosts X → ℕ → List (Cell X) → Address X → Extension → Size → Result (AbsVal X) RefusalNumber
load_at domain context cells (address.Context offset) extension size = load_context domain context offset extension size
load_at domain context cells (address.Stack offset) extension size = load_stack domain cells offset extension size

-- the cell after so many of its bytes were overwritten with numbers
abbrev pub with_numbers : {X : Type 0} → Cell X → ℕ → ℕ → Cell X
with_numbers c place count = cell.Bytes (bit_or (mask_of c) (bits_at place count))

-- the cell once a value was stored; a pointer is stored whole
abbrev pub stored_cell : {X : Type 0} → Cell X → AbsVal X → ℕ → Size → Result (Cell X) RefusalNumber
stored_cell c known.Unset place size = Err refusal.UnsetRegister
stored_cell c v place size.DoubleWord = Ok (cell.Kept v)
stored_cell c (known.Number a) place size = Ok (with_numbers c place (bytes_in size))
stored_cell c v place size = Err refusal.PointerUsed

abbrev pub store_stack : {X : Type 0} → List (Cell X) → ℕ → AbsVal X → Size → Result (List (Cell X)) RefusalNumber
store_stack cells offset v size =
    stack_place offset size >>= (λ place. stored_cell (cell_in cells (place / 8)) v place size >>= (λ c. Ok (slice_set cells (place / 8) c)))

-- the context is read only
abbrev pub store_at : {X : Type 0} → List (Cell X) → Address X → AbsVal X → Size → Result (List (Cell X)) RefusalNumber
store_at cells (address.Context offset) v size = Err refusal.ContextWrite
store_at cells (address.Stack offset) v size = store_stack cells offset v size

-- ---- stretches of single bytes, for helper functions

-- whether each of so many bytes from a place on holds a number
abbrev pub stretch_is_set : {X : Type 0} → List (Cell X) → ℕ → ℕ → Bool
stretch_is_set cells place zero = true
stretch_is_set cells place (suc count) = are_set (mask_of (cell_in cells (place / 8))) place 1 && stretch_is_set cells (suc place) count

-- the cells once so many single bytes from a place on were stored
abbrev pub stretch_written : {X : Type 0} → List (Cell X) → ℕ → ℕ → List (Cell X)
stretch_written cells place zero = cells
stretch_written cells place (suc count) = stretch_written (slice_set cells (place / 8) (with_numbers (cell_in cells (place / 8)) place 1)) (suc place) count
