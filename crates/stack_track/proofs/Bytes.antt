-- The bytes of the stack, one by one.
use Rattle.std.proofs.Common.{◌≡◌, ◌<◌, ◌≤◌, ◌+◌, ◌-◌, ◌*◌, ◌^◌, ◌⊎◌, inl, inr, ℕ, zero, suc, true, false, List, [], ◌∷◌, ◌++◌, length, map, take, drop, Some, None, Ok, refl, ap, sym, ◌∙◌, arith}
use Rattle.std.proofs.lemmas.Bool.{cases_lt, eq-eqb}
use Rattle.std.proofs.lemmas.List.{length-take-le, length-append, length-drop}
use Rattle.std.proofs.lemmas.Option.{none-some, same_Some}
use Rattle.std.specs.Int.{bytes_low_first, byte_at}
use Rattle.std.specs.List.{list_any}
use Rattle.std.specs.Prelude.{slice_get, option_and_then}
use Rattle.byteorder.specs.Endian.{little_number}
use Rattle.bpf_profile.specs.declared.instruction.Extension.{Extension}
use Rattle.bpf_profile.specs.declared.machine.Cell.{Cell as Byte}
use Rattle.bpf_profile.specs.declared.machine.Cell.TheVariants as byte
use Rattle.bpf_profile.specs.declared.machine.Region.{Region}
use Rattle.bpf_profile.specs.declared.machine.Region.TheVariants as region
use Rattle.bpf_profile.specs.declared.machine.Value.TheVariants as value
use Rattle.bpf_profile.specs.Machine.{pieces_from, is_piece, are_pieces, is_some_piece, cell_bytes, value_of_cells, overwritten}
use Rattle.bpf_profile.specs.Outcomes.{AreBytes}
use Rattle.bpf_profile.specs.Words.{extended}
use Rattle.stack_track.specs.Steps.{HoldsByte}

-- ---- elements of lists

-- lists with the same elements are one list
pub same_by_get : {A : Type 0} (xs ys : List A) → ((i : ℕ) → slice_get xs i ≡ slice_get ys i) → xs ≡ ys
same_by_get [] [] h = refl
same_by_get [] (y ∷ ys) h = absurd (none-some y (h 0))
same_by_get (x ∷ xs) [] h = absurd (none-some x (sym (h 0)))
same_by_get (x ∷ xs) (y ∷ ys) h =
    let first : x ≡ y = same_Some x y (h 0) in
    let rest : xs ≡ ys = same_by_get xs ys (λ i. h (suc i)) in
    cc

-- an element of the first n
pub get-take : {A : Type 0} (n : ℕ) (xs : List A) (i : ℕ) → i < n → slice_get (take n xs) i ≡ slice_get xs i
get-take zero xs i h = absurd (omega arith)
get-take (suc n) [] i h = refl
get-take (suc n) (x ∷ xs) zero h = refl
get-take (suc n) (x ∷ xs) (suc i) h = get-take n xs i (omega arith)

-- the first n are n at most
pub get-take_past : {A : Type 0} (n : ℕ) (xs : List A) (i : ℕ) → n ≤ i → slice_get (take n xs) i ≡ None
get-take_past zero xs i h = refl
get-take_past (suc n) [] i h = refl
get-take_past (suc n) (x ∷ xs) zero h = absurd (omega arith)
get-take_past (suc n) (x ∷ xs) (suc i) h = get-take_past n xs i (omega arith)

-- an element behind the first n
pub get-drop : {A : Type 0} (n : ℕ) (xs : List A) (i : ℕ) → slice_get (drop n xs) i ≡ slice_get xs (n + i)
get-drop zero xs i = let e : i ≡ 0 + i = omega arith in ap (slice_get xs) e
get-drop (suc n) [] i = refl
get-drop (suc n) (x ∷ xs) i = let e : suc (n + i) ≡ suc n + i = omega arith in get-drop n xs i ∙ ap (slice_get (x ∷ xs)) e

-- an element of the first of two lists
get-append_left : {A : Type 0} (xs ys : List A) (i : ℕ) → i < length xs → slice_get (xs ++ ys) i ≡ slice_get xs i
get-append_left [] ys i h = absurd (omega arith)
get-append_left (x ∷ xs) ys zero h = refl
get-append_left (x ∷ xs) ys (suc i) h = get-append_left xs ys i (omega arith)

-- an element of the second
get-append_right : {A : Type 0} (xs ys : List A) (n i : ℕ) → length xs + i ≡ n → slice_get (xs ++ ys) n ≡ slice_get ys i
get-append_right [] ys n i h = let e : n ≡ i = omega arith in ap (slice_get ys) e
get-append_right (x ∷ xs) ys zero i h = absurd (omega arith)
get-append_right (x ∷ xs) ys (suc n) i h = get-append_right xs ys n i (omega arith)

-- ---- a stack that is overwritten

-- a byte before those that are written stays
pub overwritten_before : (stack bytes : List Byte) (place i : ℕ) → place ≤ length stack → i < place → slice_get (overwritten stack place bytes) i ≡ slice_get stack i
overwritten_before stack bytes place i within h =
    let long = length-take-le place stack within in
    get-append_left (take place stack) _ i (omega (arith, long)) ∙ get-take place stack i h

-- those that are written stand there
pub overwritten_inside : (stack bytes : List Byte) (place i : ℕ) → place ≤ length stack → i < length bytes → slice_get (overwritten stack place bytes) (place + i) ≡ slice_get bytes i
overwritten_inside stack bytes place i within h =
    let long = length-take-le place stack within in
    get-append_right (take place stack) _ (place + i) i (omega (arith, long)) ∙ get-append_left bytes _ i h

-- a byte behind them stays
pub overwritten_behind : (stack bytes : List Byte) (place i : ℕ) → place ≤ length stack → place + length bytes ≤ i → slice_get (overwritten stack place bytes) i ≡ slice_get stack i
overwritten_behind stack bytes place i within h =
    let long = length-take-le place stack within in
    let left : ℕ = i - (place + length bytes) in
    let whole : place + length bytes + left ≡ i = omega (arith, h) in
    let ahead : length (take place stack) + (length bytes + left) ≡ i = omega (arith, long, h) in
    get-append_right (take place stack) _ i (length bytes + left) ahead
    ∙ (get-append_right bytes _ (length bytes + left) left refl
    ∙ (get-drop (place + length bytes) stack left ∙ ap (slice_get stack) whole))

-- the stack stays as long
pub length-overwritten : (stack bytes : List Byte) (place : ℕ) → place + length bytes ≤ length stack → length (overwritten stack place bytes) ≡ length stack
length-overwritten stack bytes place h =
    let long = length-take-le place stack (omega (arith, h)) in
    let all = length-append (take place stack) (bytes ++ drop (place + length bytes) stack) in
    let behind = length-append bytes (drop (place + length bytes) stack) in
    let rest = length-drop (place + length bytes) stack in
    omega (arith, h, long, all, behind, rest)

-- byte i of the eight bytes from a place on
pub in_window : {A : Type 0} (xs : List A) (m i : ℕ) → i < 8 → slice_get (take 8 (drop m xs)) i ≡ slice_get xs (m + i)
in_window xs m i h = get-take 8 (drop m xs) i h ∙ get-drop m xs i

-- eight bytes that are not written stay
pub window_kept : (stack bytes : List Byte) (place m : ℕ) → place ≤ length stack → (m + 8 ≤ place) ⊎ (place + length bytes ≤ m) → take 8 (drop m (overwritten stack place bytes)) ≡ take 8 (drop m stack)
window_kept stack bytes place m within apart = same_by_get _ _ (λ i. by_place i (cases_lt i 8))
  where
    by_side : (i : ℕ) → i < 8 → (m + 8 ≤ place) ⊎ (place + length bytes ≤ m) → slice_get (overwritten stack place bytes) (m + i) ≡ slice_get stack (m + i)
    by_side i h (inl p) = overwritten_before stack bytes place (m + i) within (omega arith)
    by_side i h (inr p) = overwritten_behind stack bytes place (m + i) within (omega arith)

    by_place : (i : ℕ) → (i < 8) ⊎ (8 ≤ i) → slice_get (take 8 (drop m (overwritten stack place bytes))) i ≡ slice_get (take 8 (drop m stack)) i
    by_place i (inl h) = in_window _ m i h ∙ (by_side i h apart ∙ sym (in_window stack m i h))
    by_place i (inr h) = get-take_past 8 _ i h ∙ sym (get-take_past 8 (drop m stack) i h)

-- ---- cells that hold bytes

-- bytes that each hold a number are numbers below 256
pub record AreNumbers (cells : List Byte) (count : ℕ) : Type 0 where
  pub bytes : List ℕ
  pub same : cells ≡ map byte.Byte bytes
  pub long : length bytes ≡ count
  pub below : AreBytes bytes

-- the first bytes, where each holds a number
pub numbers_of : (count : ℕ) (cells : List Byte) → ((i : ℕ) → i < count → HoldsByte cells i) → AreNumbers (take count cells) count
numbers_of zero cells h = record { bytes = []; same = refl; long = refl; below = tt }
numbers_of (suc count) [] h = let first = h 0 (omega arith) in absurd (none-some (byte.Byte first.0) first.1)
numbers_of (suc count) (c ∷ cells) h =
    let first = h 0 (omega arith) in
    let rest = numbers_of count cells (λ i less. h (suc i) (omega arith)) in
    let is : c ≡ byte.Byte first.0 = same_Some c (byte.Byte first.0) first.1 in
    let same = rest.same in
    record { bytes = first.0 ∷ rest.bytes; same = cc; long = ap suc rest.long; below = (first.2, rest.below) }

-- each byte of a list of them holds a number
pub holds_each : (bytes : List ℕ) (i : ℕ) → AreBytes bytes → i < length bytes → HoldsByte (map byte.Byte bytes) i
holds_each [] i below h = absurd (omega arith)
holds_each (b ∷ bytes) zero below h = (b, refl, below.0)
holds_each (b ∷ bytes) (suc i) below h = holds_each bytes i below.1 (omega arith)

-- a byte of a number is below 256
byte_below : (i n : ℕ) → byte_at i n < 2 ^ 8
byte_below zero n = omega arith
byte_below (suc i) n = omega arith

-- so are all of them
pub bytes_below : (from count n : ℕ) → AreBytes (bytes_low_first from count n)
bytes_below from zero n = tt
bytes_below from (suc count) n = (byte_below from n, bytes_below (suc from) count n)

-- ---- what cells load as

-- numbers are no pieces of a pointer
no_piece : (bytes : List ℕ) → list_any is_some_piece (map byte.Byte bytes) ≡ false
no_piece [] = refl
no_piece (b ∷ bytes) = no_piece bytes

-- numbers are read as they stand
pub bytes_read : (bytes : List ℕ) → cell_bytes (map byte.Byte bytes) ≡ Some bytes
bytes_read [] = refl
bytes_read (b ∷ bytes) = ap (option_and_then (λ (bytes : List ℕ). Some (b ∷ bytes))) (bytes_read bytes)

-- numbers load as the number that they spell
pub numbers_load : (x : Extension) (count : ℕ) (bytes : List ℕ) → value_of_cells x count (map byte.Byte bytes) ≡ Ok (value.Number (extended x (8 * count) (little_number count bytes)))
numbers_load x count [] = refl
numbers_load x count (b ∷ bytes) = rw (no_piece (b ∷ bytes), bytes_read (b ∷ bytes)) refl

-- a piece of a pointer is that piece
itself : (region : Region) (offset k : ℕ) → is_piece region offset k (byte.Piece region offset k) ≡ true
itself region.Stack offset k = rw (eq-eqb offset offset refl, eq-eqb k k refl) refl
itself region.Context offset k = rw (eq-eqb offset offset refl, eq-eqb k k refl) refl

-- the last pieces of a pointer, from one on, are they
all_pieces : (region : Region) (offset count k : ℕ) → k + count ≡ 8 → are_pieces region offset k (pieces_from k count region offset) ≡ true
all_pieces region offset zero k h = eq-eqb k 8 (omega arith)
all_pieces region offset (suc count) k h = rw (itself region offset k) (all_pieces region offset count (suc k) (omega arith))

-- the eight pieces of a pointer load as it
pub pointer_loads : (x : Extension) (region : Region) (offset : ℕ) → value_of_cells x 8 (pieces_from 0 8 region offset) ≡ Ok (value.Pointer region offset)
pointer_loads x region offset = rw (all_pieces region offset 8 0 refl) refl
