-- How the code has the cells of the stack: those from the last one down to the lowest that was set.
use Rattle.std.specs.Prelude.{ℕ, zero, suc, List, [], ◌∷◌, slice_index_or}
use Rattle.stack_track.specs.declared.cell.Cell.{Cell}
use Rattle.stack_track.specs.declared.cell.Cell.TheVariants as cell

-- so many cells, of those that are held, the last one first: nothing is known of the cells before them
unfoldable pub spread : {X : Type 0} → ℕ → List (Cell X) → List (Cell X)
spread zero held = []
spread (suc count) held = slice_index_or held count (cell.Bytes 0) ∷ spread count held
