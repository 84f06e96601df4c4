-- Stores leave the stack as known.
use Rattle.std.proofs.Common.{◌≡◌, ◌<◌, ◌≤◌, ◌+◌, ◌-◌, ◌*◌, ◌/◌, ◌%◌, ◌⊎◌, inl, inr, ℕ, zero, suc, List, [], ◌∷◌, length, map, take, drop, Ok, refl, ap, sym, subst, ◌∙◌, arith}
use Rattle.std.proofs.lemmas.Bool.{cases_lt, cases_order}
use Rattle.std.proofs.lemmas.List.{length-take-le, length-map, get_or-set_other, take_at, drop_at}
use Rattle.std.specs.Prelude.{slice_get, slice_set}
use Rattle.byteorder.specs.Endian.{little_bytes}
use Rattle.byteorder.specs.Numbers.{length-bytes_low_first}
use Rattle.refusals.specs.declared.RefusalNumber.TheVariants as refusal
use Rattle.abs_domain.specs.declared.domain.Domain.{Ghosts}
use Rattle.abs_regs.specs.declared.address.Address.{Address}
use Rattle.abs_regs.specs.declared.address.Address.TheVariants as address
use Rattle.abs_regs.specs.declared.value.AbsVal.{AbsVal}
use Rattle.abs_regs.specs.declared.value.AbsVal.TheVariants as known
use Rattle.abs_regs.specs.Steps.{IsAt}
use Rattle.abs_regs.specs.Values.{IsAs}
use Rattle.bpf_profile.specs.declared.instruction.Size.{Size}
use Rattle.bpf_profile.specs.declared.instruction.Size.TheVariants as size
use Rattle.bpf_profile.specs.declared.machine.Cell.{Cell as Byte}
use Rattle.bpf_profile.specs.declared.machine.Cell.TheVariants as byte
use Rattle.bpf_profile.specs.declared.machine.Region.{Region}
use Rattle.bpf_profile.specs.declared.machine.Region.TheVariants as region
use Rattle.bpf_profile.specs.declared.machine.Value.{Value}
use Rattle.bpf_profile.specs.declared.machine.Value.TheVariants as value
use Rattle.bpf_profile.specs.Limits.{stack_size}
use Rattle.bpf_profile.specs.Machine.{Address as Place, cells_of, pieces_from, overwritten}
use Rattle.bpf_profile.specs.Words.{bytes_in}
use Rattle.stack_track.specs.declared.cell.Cell.{Cell}
use Rattle.stack_track.specs.declared.cell.Cell.TheVariants as cell
use Rattle.stack_track.specs.Accesses.{stack_place, with_numbers, stored_cell, store_stack, store_at}
use Rattle.stack_track.specs.Cells.{mask_of, cell_in}
use Rattle.stack_track.specs.Steps.{HoldsByte, IsCell, AreCells, Stores}
use Rattle.stack_track.proofs.Bytes.{overwritten_before, overwritten_inside, overwritten_behind, length-overwritten, in_window, window_kept, holds_each, bytes_below}
use Rattle.stack_track.proofs.Known.{same_ok, err_not_ok, nothing_known, masked}
use Rattle.stack_track.proofs.Placed.{bind_ok, stack_placed, stack_place_for, place_inside, place_within, cell_number, set_outside}

-- ---- one cell is written, and no other

-- the cell that is set, where the list has it
set_in : {X : Type 0} (P : Cell X → Type 0) (cells : List (Cell X)) (k : ℕ) (c : Cell X) → P (cell.Bytes 0) → P c → P (cell_in (slice_set cells k c) k)
set_in P [] k c none h = none
set_in P (x ∷ cells) zero c none h = h
set_in P (x ∷ cells) (suc k) c none h = set_in P cells k c none h

-- bytes of another cell aren't written
apart : (place count k : ℕ) → place % 8 + count ≤ 8 → (k < place / 8) ⊎ (place / 8 < k) → (8 * k + 8 ≤ place) ⊎ (place + count ≤ 8 * k)
apart place count k within (inl before) = inl (omega arith)
apart place count k within (inr behind) = inr (omega arith)

-- bytes within a cell are written: of the others as much is known as before
pub cell_written : {X : Type 0} (domain : Ghosts X) (cells : List (Cell X)) (stack bytes : List Byte) (c : Cell X) (place : ℕ) → AreCells domain cells stack → place % 8 + length bytes ≤ 8 → place + length bytes ≤ stack_size
    → IsCell domain c (take 8 (drop (8 * (place / 8)) (overwritten stack place bytes))) → AreCells domain (slice_set cells (place / 8) c) (overwritten stack place bytes)
cell_written {X} domain cells stack bytes c place h within inside is = record { size = length-overwritten stack bytes place fits ∙ h.size; each = λ k less. by_cell k less (cases_order k (place / 8)) }
  where
    fits : place + length bytes ≤ length stack
    fits = let long = h.size in omega (arith, long, inside)

    other : (k : ℕ) → k < 64 → (k < place / 8) ⊎ (place / 8 < k) → (k ≡ place / 8 → ⊥) → IsCell domain (cell_in (slice_set cells (place / 8) c) k) (take 8 (drop (8 * k) (overwritten stack place bytes)))
    other k less sides away =
        subst (λ d. IsCell domain d (take 8 (drop (8 * k) (overwritten stack place bytes)))) (sym (get_or-set_other cells (place / 8) k c (cell.Bytes 0) away))
        (subst (IsCell domain (cell_in cells k)) (sym (window_kept stack bytes place (8 * k) (omega (arith, fits)) (apart place (length bytes) k within sides))) (h.each k less))

    by_cell : (k : ℕ) → k < 64 → (k ≡ place / 8) ⊎ ((k < place / 8) ⊎ (place / 8 < k)) → IsCell domain (cell_in (slice_set cells (place / 8) c) k) (take 8 (drop (8 * k) (overwritten stack place bytes)))
    by_cell k less (inl same) =
        subst (λ k. IsCell domain (cell_in (slice_set cells (place / 8) c) k) (take 8 (drop (8 * k) (overwritten stack place bytes)))) (sym same)
        (set_in (λ d. IsCell domain d (take 8 (drop (8 * (place / 8)) (overwritten stack place bytes)))) cells (place / 8) c (nothing_known domain (take 8 (drop (8 * (place / 8)) (overwritten stack place bytes)))) is)
    by_cell k less (inr (inl before)) = other k less (inl before) (λ e. omega arith)
    by_cell k less (inr (inr behind)) = other k less (inr behind) (λ e. omega arith)

-- ---- numbers in a part of a cell

-- equal bytes hold the same number
moved_byte : (xs ys : List Byte) (i j : ℕ) → slice_get xs i ≡ slice_get ys j → HoldsByte ys j → HoldsByte xs i
moved_byte xs ys i j e h = (h.0, e ∙ h.1, h.2)

-- numbers are written to bytes of a cell, which hold numbers from then on
pub part_written : {X : Type 0} (domain : Ghosts X) (c : Cell X) (stack bytes : List Byte) (place : ℕ) → IsCell domain c (take 8 (drop (8 * (place / 8)) stack)) → place % 8 + length bytes ≤ 8
    → place + length bytes ≤ length stack → ((i : ℕ) → i < length bytes → HoldsByte bytes i)
    → IsCell domain (with_numbers c place (length bytes)) (take 8 (drop (8 * (place / 8)) (overwritten stack place bytes)))
part_written domain c stack bytes place h within fits numbers j less set = by_side (cases_lt j (place % 8)) (cases_lt j (place % 8 + length bytes))
  where
    old : (j < place % 8) ⊎ (place % 8 + length bytes ≤ j) → HoldsByte (take 8 (drop (8 * (place / 8)) stack)) j
    old outside = masked domain c (take 8 (drop (8 * (place / 8)) stack)) j h less (set_outside (mask_of c) place (length bytes) j outside set)

    kept : slice_get (overwritten stack place bytes) (8 * (place / 8) + j) ≡ slice_get stack (8 * (place / 8) + j)
        → (j < place % 8) ⊎ (place % 8 + length bytes ≤ j) → HoldsByte (take 8 (drop (8 * (place / 8)) (overwritten stack place bytes))) j
    kept same outside =
        moved_byte _ (take 8 (drop (8 * (place / 8)) stack)) j j
        (in_window (overwritten stack place bytes) (8 * (place / 8)) j less ∙ (same ∙ sym (in_window stack (8 * (place / 8)) j less))) (old outside)

    by_side : (j < place % 8) ⊎ (place % 8 ≤ j) → (j < place % 8 + length bytes) ⊎ (place % 8 + length bytes ≤ j) → HoldsByte (take 8 (drop (8 * (place / 8)) (overwritten stack place bytes))) j
    by_side (inl before) other = kept (overwritten_before stack bytes place (8 * (place / 8) + j) (omega (arith, fits)) (omega (arith, before))) (inl before)
    by_side (inr from) (inr behind) = kept (overwritten_behind stack bytes place (8 * (place / 8) + j) (omega (arith, fits)) (omega (arith, behind))) (inr behind)
    by_side (inr from) (inl to) =
        (let i : ℕ = j - place % 8 in
        let there : 8 * (place / 8) + j ≡ place + i = omega (arith, from) in
        moved_byte _ bytes j i
        (in_window (overwritten stack place bytes) (8 * (place / 8)) j less
        ∙ (ap (slice_get (overwritten stack place bytes)) there ∙ overwritten_inside stack bytes place i (omega (arith, fits)) (omega (arith, from, to))))
        (numbers i (omega (arith, from, to))))

-- ---- values

-- how a value is spelled in so many cells
record IsSpelled (count : ℕ) (v : Value) : Type 0 where
  bytes : List Byte
  is : cells_of count v ≡ Ok bytes
  long : length bytes ≡ count

-- a number has its lowest bytes
spelled_number : (count n : ℕ) (v : Value) → v ≡ value.Number n → IsSpelled count v
spelled_number count n v e = record {
  bytes = map byte.Byte (little_bytes count n);
  is = ap (cells_of count) e;
  long = length-map (little_bytes count n) byte.Byte ∙ length-bytes_low_first 0 count n;
}

-- a pointer has eight pieces
spelled_pointer : (r : Region) (offset : ℕ) (v : Value) → v ≡ value.Pointer r offset → IsSpelled 8 v
spelled_pointer r offset v e = record { bytes = pieces_from 0 8 r offset; is = ap (cells_of 8) e; long = refl }

-- what a store leaves in its cell
record IsStored {X : Type 0} (domain : Ghosts X) (c : Cell X) (stack : List Byte) (place count : ℕ) (v : Value) : Type 0 where
  spelled : IsSpelled count v
  known : IsCell domain c (take 8 (drop (8 * (place / 8)) (overwritten stack place spelled.bytes)))

-- the eight bytes of a cell that was written whole
whole_window : (stack bytes : List Byte) (place : ℕ) → place ≤ length stack → place % 8 + 8 ≤ 8 → length bytes ≡ 8 → take 8 (drop (8 * (place / 8)) (overwritten stack place bytes)) ≡ bytes
whole_window stack bytes place fits within long =
    let start : 8 * (place / 8) ≡ place = omega (arith, within) in
    ap (λ (from : ℕ). take 8 (drop from (overwritten stack place bytes))) start
    ∙ (ap (take 8) (drop_at (take place stack) _ place (length-take-le place stack fits)) ∙ take_at bytes _ 8 long)

-- a store of a whole cell
whole_stored : {X : Type 0} (domain : Ghosts X) (a : AbsVal X) (stack : List Byte) (place : ℕ) (v : Value) → place ≤ length stack → place % 8 + 8 ≤ 8 → IsAs domain a v → IsSpelled 8 v
    → IsStored domain (cell.Kept a) stack place 8 v
whole_stored domain a stack place v fits within is spelled = record {
  spelled = spelled;
  known = subst (IsCell domain (cell.Kept a)) (sym (whole_window stack spelled.bytes place fits within spelled.long)) (v, spelled.is, is);
}

-- a store of a number in fewer bytes
part_stored : {X : Type 0} (domain : Ghosts X) (c : Cell X) (stack : List Byte) (place count n : ℕ) (v : Value) → v ≡ value.Number n → IsCell domain c (take 8 (drop (8 * (place / 8)) stack)) → place % 8 + count ≤ 8
    → place + count ≤ length stack → IsStored domain (with_numbers c place count) stack place count v
unfolding spelled_number
part_stored domain c stack place count n v e h within fits =
    let spelled = spelled_number count n v e in
    let long = spelled.long in
    let each : (i : ℕ) → i < length spelled.bytes → HoldsByte spelled.bytes i = λ i less. (
    let same = length-bytes_low_first 0 count n in
    holds_each (little_bytes count n) i (bytes_below 0 count n) (omega (arith, less, long, same))) in
    let is = part_written domain c stack spelled.bytes place h (omega (arith, within, long)) (omega (arith, fits, long)) each in
    record {
      spelled = spelled;
      known = subst (λ count. IsCell domain (with_numbers c place count) (take 8 (drop (8 * (place / 8)) (overwritten stack place spelled.bytes)))) long is;
    }

-- the cell that a store leaves
stored_follows : {X : Type 0} (domain : Ghosts X) (c after : Cell X) (a : AbsVal X) (stack : List Byte) (place : ℕ) (access : Size) (v : Value) → IsCell domain c (take 8 (drop (8 * (place / 8)) stack))
    → place % 8 + bytes_in access ≤ 8 → place + bytes_in access ≤ length stack → IsAs domain a v → stored_cell c a place access ≡ Ok after → IsStored domain after stack place (bytes_in access) v
stored_follows domain c after known.Unset stack place access v h within fits is e = absurd (err_not_ok refusal.UnsetRegister after e)
stored_follows domain c after (known.Number d) stack place size.DoubleWord v h within fits is e =
    subst (λ c. IsStored domain c stack place 8 v) (same_ok (cell.Kept (known.Number d)) after e) (whole_stored domain (known.Number d) stack place v (omega (arith, fits)) within is (spelled_number 8 is.0 v is.1))
stored_follows domain c after (known.Stack offset) stack place size.DoubleWord v h within fits is e =
    subst (λ c. IsStored domain c stack place 8 v) (same_ok (cell.Kept (known.Stack offset)) after e) (whole_stored domain (known.Stack offset) stack place v (omega (arith, fits)) within is (spelled_pointer region.Stack offset v is))
stored_follows domain c after (known.Context d) stack place size.DoubleWord v h within fits is e =
    subst (λ c. IsStored domain c stack place 8 v) (same_ok (cell.Kept (known.Context d)) after e) (whole_stored domain (known.Context d) stack place v (omega (arith, fits)) within is (spelled_pointer region.Context is.0 v is.1))
stored_follows domain c after (known.Number d) stack place access v h within fits is e =
    subst (λ c. IsStored domain c stack place (bytes_in access) v) (same_ok (with_numbers c place (bytes_in access)) after e) (part_stored domain c stack place (bytes_in access) is.0 v is.1 h within fits)
stored_follows domain c after a stack place access v h within fits is e = absurd (err_not_ok refusal.PointerUsed after e)

-- ---- the stack

-- a store to the stack leaves it as known
stack_stores : {X : Type 0} (domain : Ghosts X) (context : ℕ) (stack : List Byte) (cells after : List (Cell X)) (offset : ℕ) (a : AbsVal X) (access : Size) (v : Value) → AreCells domain cells stack → IsAs domain a v
    → store_stack cells offset a access ≡ Ok after → Stores domain after context stack (record { region = region.Stack; offset = offset }) access v
stack_stores domain context stack cells after offset a access v h is e =
    let placed = bind_ok (stack_place offset access) _ after e in
    let place : ℕ = placed.0 in
    let p = stack_placed access offset place placed.1 in
    let within = place_within access offset place p in
    let inside = place_inside access offset place p in
    let number = cell_number access offset place p in
    let changed = bind_ok (stored_cell (cell_in cells (place / 8)) a place access) (λ c. Ok (slice_set cells (place / 8) c)) after placed.2 in
    let long = h.size in
    let stored = stored_follows domain (cell_in cells (place / 8)) changed.0 a stack place access v (h.each (place / 8) number) within (omega (arith, inside, long)) is changed.1 in
    let bytes = stored.spelled.bytes in
    let count = stored.spelled.long in
    let follows = cell_written domain cells stack bytes changed.0 place h (omega (arith, within, count)) (omega (arith, inside, count)) stored.known in
    record {
      place = place;
      bytes = bytes;
      writable = refl;
      placed = stack_place_for context access offset place p;
      spelled = stored.spelled.is;
      after = subst (λ cells. AreCells domain cells (overwritten stack place bytes)) (same_ok _ after changed.2) follows;
    }

-- a store that isn't refused doesn't trap, and leaves the stack as known
pub store_follows : {X : Type 0} (domain : Ghosts X) (context : ℕ) (stack : List Byte) (cells after : List (Cell X)) (to : Address X) (at : Place) (a : AbsVal X) (access : Size) (v : Value) → AreCells domain cells stack
    → IsAt domain to at → IsAs domain a v → store_at cells to a access ≡ Ok after → Stores domain after context stack at access v
store_follows domain context stack cells after (address.Context d) at a access v h there is e = absurd (err_not_ok refusal.ContextWrite after e)
store_follows domain context stack cells after (address.Stack offset) at a access v h there is e =
    subst (λ at. Stores domain after context stack at access v) (sym there) (stack_stores domain context stack cells after offset a access v h is e)
