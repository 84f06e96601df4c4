-- Stretches of single bytes follow what is known.
use Rattle.std.proofs.Common.{◌≡◌, ◌<◌, ◌≤◌, ◌+◌, ◌-◌, ◌*◌, ◌/◌, ◌%◌, ◌⊎◌, inl, inr, ℕ, zero, suc, true, List, [], ◌∷◌, ◌++◌, length, map, take, drop, Some, ap, sym, subst, ◌∙◌, arith}
use Rattle.std.proofs.lemmas.Bool.{cases_lt, and_parts}
use Rattle.std.proofs.lemmas.List.{length-map, take-append-drop}
use Rattle.std.specs.Prelude.{slice_get, slice_set}
use Rattle.abs_domain.specs.declared.domain.Domain.{Ghosts}
use Rattle.bpf_profile.specs.declared.machine.Cell.{Cell as Byte}
use Rattle.bpf_profile.specs.declared.machine.Cell.TheVariants as byte
use Rattle.bpf_profile.specs.Limits.{stack_size}
use Rattle.bpf_profile.specs.Machine.{cell_bytes, overwritten}
use Rattle.bpf_profile.specs.Outcomes.{AreBytes}
use Rattle.stack_track.specs.declared.cell.Cell.{Cell}
use Rattle.stack_track.specs.Accesses.{with_numbers, stretch_is_set, stretch_written}
use Rattle.stack_track.specs.Cells.{mask_of, cell_in, are_set}
use Rattle.stack_track.specs.Steps.{HoldsByte, AreCells}
use Rattle.stack_track.proofs.Bytes.{same_by_get, get-drop, in_window, overwritten_before, overwritten_inside, overwritten_behind, length-overwritten, AreNumbers, numbers_of, holds_each, bytes_read}
use Rattle.stack_track.proofs.Known.{masked}
use Rattle.stack_track.proofs.Placed.{set_inside}
use Rattle.stack_track.proofs.Stores.{cell_written, part_written}

-- ---- bytes that are read

-- a single byte that is known to hold a number does
byte_follows : {X : Type 0} (domain : Ghosts X) (cells : List (Cell X)) (stack : List Byte) (place : ℕ) → AreCells domain cells stack → place < stack_size
    → are_set (mask_of (cell_in cells (place / 8))) place 1 ≡ true → HoldsByte stack (place + 0)
byte_follows domain cells stack place h inside e =
    let less : place % 8 + 0 < 8 = omega arith in
    let known = h.each (place / 8) (omega (arith, inside)) in
    let there = masked domain (cell_in cells (place / 8)) (take 8 (drop (8 * (place / 8)) stack)) (place % 8 + 0) known less (set_inside (mask_of (cell_in cells (place / 8))) place 1 0 e (omega arith)) in
    let same : 8 * (place / 8) + (place % 8 + 0) ≡ place + 0 = omega arith in
    (there.0, sym (in_window stack (8 * (place / 8)) (place % 8 + 0) less ∙ ap (slice_get stack) same) ∙ there.1, there.2)

-- each byte of a stretch that is known to hold numbers does
bytes_follow : {X : Type 0} (domain : Ghosts X) (cells : List (Cell X)) (stack : List Byte) (place count : ℕ) → AreCells domain cells stack → place + count ≤ stack_size
    → stretch_is_set cells place count ≡ true → (i : ℕ) → i < count → HoldsByte stack (place + i)
bytes_follow domain cells stack place zero h inside e i less = absurd (omega arith)
bytes_follow domain cells stack place (suc count) h inside e zero less = byte_follows domain cells stack place h (omega arith) (and_parts _ _ e).0
bytes_follow domain cells stack place (suc count) h inside e (suc i) less =
    let next : suc place + i ≡ place + suc i = omega arith in
    subst (HoldsByte stack) next (bytes_follow domain cells stack (suc place) count h (omega arith) (and_parts _ _ e).1 i (omega arith))

-- a stretch that is known to hold numbers does
pub stretch_holds : {X : Type 0} (domain : Ghosts X) (cells : List (Cell X)) (stack : List Byte) (place count : ℕ) → AreCells domain cells stack → place + count ≤ stack_size
    → stretch_is_set cells place count ≡ true → AreNumbers (take count (drop place stack)) count
stretch_holds domain cells stack place count h inside e = numbers_of count (drop place stack) (λ i less.
    (let there = bytes_follow domain cells stack place count h inside e i less in
    (there.0, get-drop place stack i ∙ there.1, there.2)))

-- its bytes, each below 256
pub stretch_reads : {X : Type 0} (domain : Ghosts X) (cells : List (Cell X)) (stack : List Byte) (place count : ℕ) → AreCells domain cells stack → place + count ≤ stack_size
    → stretch_is_set cells place count ≡ true → (bytes : List ℕ) × (cell_bytes (take count (drop place stack)) ≡ Some bytes) × AreBytes bytes
stretch_reads domain cells stack place count h inside e =
    let numbers = stretch_holds domain cells stack place count h inside e in
    (numbers.bytes, ap cell_bytes numbers.same ∙ bytes_read numbers.bytes, numbers.below)

-- ---- bytes that are written

-- to write bytes is to write the first, and then the others
written_twice : (stack bytes : List Byte) (c : Byte) (place : ℕ) → place + suc (length bytes) ≤ length stack → overwritten (overwritten stack place (c ∷ [])) (suc place) bytes ≡ overwritten stack place (c ∷ bytes)
written_twice stack bytes c place fits = same_by_get _ _ (λ i. by_side i (cases_lt i (suc place)) (cases_lt i place) (cases_lt i (place + suc (length bytes))))
  where
    longer : suc place ≤ length (overwritten stack place (c ∷ []))
    longer = let long = length-overwritten stack (c ∷ []) place (omega (arith, fits)) in omega (arith, fits, long)

    by_side : (i : ℕ) → (i < suc place) ⊎ (suc place ≤ i) → (i < place) ⊎ (place ≤ i) → (i < place + suc (length bytes)) ⊎ (place + suc (length bytes) ≤ i)
        → slice_get (overwritten (overwritten stack place (c ∷ [])) (suc place) bytes) i ≡ slice_get (overwritten stack place (c ∷ bytes)) i
    by_side i (inl near) (inl before) end =
        overwritten_before (overwritten stack place (c ∷ [])) bytes (suc place) i longer near
        ∙ (overwritten_before stack (c ∷ []) place i (omega (arith, fits)) before ∙ sym (overwritten_before stack (c ∷ bytes) place i (omega (arith, fits)) before))
    by_side i (inl near) (inr from) end =
        (let first : i ≡ place + 0 = omega arith in
        overwritten_before (overwritten stack place (c ∷ [])) bytes (suc place) i longer near
        ∙ (ap (slice_get (overwritten stack place (c ∷ []))) first
        ∙ (overwritten_inside stack (c ∷ []) place 0 (omega (arith, fits)) (omega arith)
        ∙ (sym (overwritten_inside stack (c ∷ bytes) place 0 (omega (arith, fits)) (omega arith)) ∙ ap (slice_get (overwritten stack place (c ∷ bytes))) (sym first)))))
    by_side i (inr far) from (inl to) =
        (let k : ℕ = i - suc place in
        let one : i ≡ suc place + k = omega arith in
        let other : i ≡ place + suc k = omega arith in
        ap (slice_get (overwritten (overwritten stack place (c ∷ [])) (suc place) bytes)) one
        ∙ (overwritten_inside (overwritten stack place (c ∷ [])) bytes (suc place) k longer (omega arith)
        ∙ (sym (overwritten_inside stack (c ∷ bytes) place (suc k) (omega (arith, fits)) (omega arith)) ∙ ap (slice_get (overwritten stack place (c ∷ bytes))) (sym other))))
    by_side i (inr far) from (inr end) =
        overwritten_behind (overwritten stack place (c ∷ [])) bytes (suc place) i longer (omega (arith, end))
        ∙ (overwritten_behind stack (c ∷ []) place i (omega (arith, fits)) (omega (arith, far)) ∙ sym (overwritten_behind stack (c ∷ bytes) place i (omega (arith, fits)) (omega (arith, end))))

-- of no byte the stack stays
written_none : (stack : List Byte) (place : ℕ) → overwritten stack place [] ≡ stack
written_none stack place = let same : place + 0 ≡ place = omega arith in ap (λ (from : ℕ). take place stack ++ drop from stack) same ∙ take-append-drop place stack

-- numbers that are written to a stretch stand there, and leave the stack as known
pub stretch_writes : {X : Type 0} (domain : Ghosts X) (cells : List (Cell X)) (stack : List Byte) (place : ℕ) (bytes : List ℕ) → AreCells domain cells stack → place + length bytes ≤ stack_size → AreBytes bytes
    → AreCells domain (stretch_written cells place (length bytes)) (overwritten stack place (map byte.Byte bytes))
stretch_writes domain cells stack place [] h inside below = subst (AreCells domain cells) (sym (written_none stack place)) h
stretch_writes domain cells stack place (b ∷ bytes) h inside below =
    let long = h.size in
    let within : place % 8 + 1 ≤ 8 = omega arith in
    let each : (i : ℕ) → i < 1 → HoldsByte (byte.Byte b ∷ []) i = λ i less. holds_each (b ∷ []) i (below.0, tt) less in
    let is = part_written domain (cell_in cells (place / 8)) stack (byte.Byte b ∷ []) place (h.each (place / 8) (omega (arith, inside))) within (omega (arith, inside, long)) each in
    let first = cell_written domain cells stack (byte.Byte b ∷ []) (with_numbers (cell_in cells (place / 8)) place 1) place h within (omega (arith, inside)) is in
    let rest = stretch_writes domain (slice_set cells (place / 8) (with_numbers (cell_in cells (place / 8)) place 1)) (overwritten stack place (byte.Byte b ∷ [])) (suc place) bytes first (omega (arith, inside)) below.1 in
    let all = length-map bytes byte.Byte in
    subst (AreCells domain (stretch_written cells place (suc (length bytes)))) (written_twice stack (map byte.Byte bytes) (byte.Byte b) place (omega (arith, inside, long, all))) rest
