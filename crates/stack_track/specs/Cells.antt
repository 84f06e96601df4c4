-- The abstract stack: 64 cells of eight bytes, the lowest offsets first.
use Rattle.std.specs.Prelude.{ℕ, ◌-◌, ◌*◌, ◌%◌, ◌^◌, ◌==◌, Bool, List, map, replicate, slice_index_or, bit_and}
use Rattle.std.specs.List.{zip}
use Rattle.abs_domain.specs.declared.domain.Domain.{Ghosts}
use Rattle.abs_regs.specs.declared.value.AbsVal.{AbsVal}
use Rattle.abs_regs.specs.declared.value.AbsVal.TheVariants as known
use Rattle.abs_regs.specs.Values.{joined_value}
use Rattle.stack_track.specs.declared.cell.Cell.{Cell}
use Rattle.stack_track.specs.declared.cell.Cell.TheVariants as cell

-- a bit for each byte of the cell that is known to hold a number, the lowest bit for the lowest offset
abbrev pub mask_of : {X : Type 0} → Cell X → ℕ
mask_of (cell.Bytes mask) = mask
mask_of (cell.Kept (known.Number a)) = 255
mask_of (cell.Kept a) = 0

-- a cell that keeps an abstract value, unless the value describes everything
abbrev pub kept : {X : Type 0} → AbsVal X → Cell X
kept known.Unset = cell.Bytes 0
kept a = cell.Kept a

-- the join of two cells, which describes all that either describes
abbrev pub joined_cell : {X : Type 0} → Ghosts X → Cell X → Cell X → Cell X
joined_cell domain (cell.Kept a) (cell.Kept b) = kept (joined_value domain a b)
joined_cell domain (cell.Kept (known.Number a)) (cell.Bytes mask) = cell.Bytes mask
joined_cell domain (cell.Bytes mask) (cell.Kept (known.Number b)) = cell.Bytes mask
joined_cell domain (cell.Bytes a) (cell.Bytes b) = cell.Bytes (bit_and a b)
joined_cell domain a b = cell.Bytes 0

abbrev pub joined_cells : {X : Type 0} → Ghosts X → List (Cell X) → List (Cell X) → List (Cell X)
joined_cells {X} domain a b = map (λ (p : Cell X × Cell X). joined_cell domain p.0 p.1) (zip a b)

abbrev pub cell_in : {X : Type 0} → List (Cell X) → ℕ → Cell X
cell_in cells k = slice_index_or cells k (cell.Bytes 0)

-- the entry state: no byte of the stack is set
abbrev pub entry_cells : {X : Type 0} → List (Cell X)
entry_cells = replicate 64 (cell.Bytes 0)

-- the bits of so many bytes from a place of the stack on, within its cell
abbrev pub bits_at : ℕ → ℕ → ℕ
bits_at place count = (2 ^ count - 1) * 2 ^ (place % 8)

-- whether these bytes are known to hold numbers
abbrev pub are_set : ℕ → ℕ → ℕ → Bool
are_set mask place count = bit_and mask (bits_at place count) == bits_at place count
