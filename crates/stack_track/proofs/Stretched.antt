-- Stretches of single bytes, one byte at a time.
use Rattle.std.proofs.Common.{◌≡◌, ◌<◌, ◌+◌, ◌-◌, ◌/◌, ℕ, suc, List, Bool, true, false, ap, sym, ◌∙◌, arith}
use Rattle.std.specs.Prelude.{◌&&◌, slice_set}
use Rattle.stack_track.specs.declared.cell.Cell.{Cell}
use Rattle.stack_track.specs.Cells.{mask_of, cell_in, are_set}
use Rattle.stack_track.specs.Accesses.{with_numbers, stretch_is_set, stretch_written}

-- a function of the place and of how many bytes are left, one byte on
stretch_more : {Y : Type 0} (f : ℕ → ℕ → Y) (place count i : ℕ) → i < count → f (place + i) (count - i) ≡ f (place + i) (suc (count - (i + 1)))
stretch_more f place count i h = let left : count - i ≡ suc (count - (i + 1)) = omega (arith, h) in ap (f (place + i)) left

-- the byte at a counter is set, and the bytes behind it decide
pub set_more : {X : Type 0} (cells : List (Cell X)) (place count i : ℕ) → i < count → are_set (mask_of (cell_in cells ((place + i) / 8))) (place + i) 1 ≡ true
    → stretch_is_set cells (place + (i + 1)) (count - (i + 1)) ≡ stretch_is_set cells (place + i) (count - i)
set_more cells place count i h e =
    let next : suc (place + i) ≡ place + (i + 1) = omega arith in
    sym (stretch_more (stretch_is_set cells) place count i h
    ∙ (ap (λ (b : Bool). b && stretch_is_set cells (suc (place + i)) (count - (i + 1))) e
    ∙ ap (λ (p : ℕ). stretch_is_set cells p (count - (i + 1))) next))

-- the byte at a counter is not set
pub set_less : {X : Type 0} (cells : List (Cell X)) (place count i : ℕ) → i < count → are_set (mask_of (cell_in cells ((place + i) / 8))) (place + i) 1 ≡ false
    → stretch_is_set cells (place + i) (count - i) ≡ false
set_less cells place count i h e = stretch_more (stretch_is_set cells) place count i h ∙ ap (λ (b : Bool). b && stretch_is_set cells (suc (place + i)) (count - (i + 1))) e

-- the byte at a counter is written, then those behind it
pub written_more : {X : Type 0} (cells now : List (Cell X)) (place count i : ℕ) → i < count → now ≡ slice_set cells ((place + i) / 8) (with_numbers (cell_in cells ((place + i) / 8)) (place + i) 1)
    → stretch_written now (place + (i + 1)) (count - (i + 1)) ≡ stretch_written cells (place + i) (count - i)
written_more cells now place count i h e =
    let next : suc (place + i) ≡ place + (i + 1) = omega arith in
    let ahead = sym (ap (λ (p : ℕ). stretch_written now p (count - (i + 1))) next) in
    ahead ∙ (ap (λ cells. stretch_written cells (suc (place + i)) (count - (i + 1))) e ∙ sym (stretch_more (stretch_written cells) place count i h))
