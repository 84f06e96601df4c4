-- What is known of cells, by their bits and by the values that they keep.
use Rattle.std.proofs.Common.{◌≡◌, ◌<◌, ◌≤◌, ◌*◌, ◌%◌, ◌^◌, ◌==◌, ℕ, zero, suc, Bool, true, false, cond, List, [], ◌∷◌, length, map, take, drop, replicate, Result, Ok, Err, refl, ap, sym, subst, ◌∙◌, arith}
use Rattle.std.proofs.lemmas.Bool.{eqb-true}
use Rattle.std.proofs.lemmas.List.{length-replicate}
use Rattle.std.proofs.lemmas.Nat.Bits.{bit_at-zero, bit_at-lt, bit_at_and, bit_at_ones}
use Rattle.std.specs.Int.{bit_at}
use Rattle.std.specs.Prelude.{bit_and}
use Rattle.byteorder.specs.Endian.{little_bytes}
use Rattle.byteorder.specs.Numbers.{length-bytes_low_first}
use Rattle.abs_domain.specs.declared.domain.Domain.{Ghosts}
use Rattle.abs_domain.specs.declared.operations.Conversion.{Conversion}
use Rattle.abs_domain.specs.Operations.{word_conversion}
use Rattle.abs_regs.specs.declared.value.AbsVal.{AbsVal}
use Rattle.abs_regs.specs.declared.value.AbsVal.TheVariants as known
use Rattle.abs_regs.specs.Values.{IsAs, joined_value}
use Rattle.bpf_profile.specs.declared.instruction.Size.{Size}
use Rattle.bpf_profile.specs.declared.machine.Cell.{Cell as Byte}
use Rattle.bpf_profile.specs.declared.machine.Cell.TheVariants as byte
use Rattle.bpf_profile.specs.declared.machine.Region.TheVariants as region
use Rattle.bpf_profile.specs.declared.machine.Value.{Value}
use Rattle.bpf_profile.specs.declared.machine.Value.TheVariants as value
use Rattle.bpf_profile.specs.Limits.{stack_size}
use Rattle.bpf_profile.specs.Machine.{cells_of}
use Rattle.bpf_profile.specs.Words.{IsWord}
use Rattle.stack_track.specs.declared.cell.Cell.{Cell}
use Rattle.stack_track.specs.declared.cell.Cell.TheVariants as cell
use Rattle.stack_track.specs.Cells.{mask_of, kept, joined_cell, joined_cells, cell_in, entry_cells}
use Rattle.stack_track.specs.Steps.{HoldsByte, IsCell, AreCells}
use Rattle.stack_track.proofs.Bytes.{holds_each, bytes_below}

-- the laws of a domain that are used here
pub record Sound {X : Type 0} (domain : Ghosts X) : Type 0 where
  pub words : (a : X) (n : ℕ) → domain.contains a n → IsWord n
  pub any : (n : ℕ) → IsWord n → domain.contains domain.of_any n
  pub first : (a b : X) (n : ℕ) → domain.contains a n → domain.contains (domain.joined a b) n
  pub second : (a b : X) (n : ℕ) → domain.contains b n → domain.contains (domain.joined a b) n
  pub conversions : (conversion : Conversion) (size : Size) (a : X) (n : ℕ) → domain.contains a n → domain.contains (domain.converted conversion size a) (word_conversion conversion size n)
  pub bounds : (a : X) (n : ℕ) → domain.contains a n → ((domain.bounds_of a).low ≤ n) × (n ≤ (domain.bounds_of a).high)
  pub zeros : (a : X) (count n : ℕ) → count < 64 → domain.has_low_zeros a count ≡ true → domain.contains a n → n % 2 ^ count ≡ 0

-- equal results are of equal values
pub same_ok : {A E : Type 0} (a b : A) → ◌≡◌ {A = Result A E} (Ok a) (Ok b) → a ≡ b
same_ok a b h = cc

-- an error is no value
pub err_not_ok : {A E : Type 0} (e : E) (a : A) → ◌≡◌ {A = Result A E} (Err e) (Ok a) → ⊥
err_not_ok e a h = cc

-- ---- single cells

-- of no mask a byte is known
pub nothing_known : {X : Type 0} (domain : Ghosts X) (bytes : List Byte) → IsCell domain (cell.Bytes 0) bytes
nothing_known domain bytes j less set = absurd (omega (arith, set, bit_at-zero j))

-- each of the bytes of a number is one
number_bytes : (v : Value) (n j : ℕ) (bytes : List Byte) → v ≡ value.Number n → cells_of 8 v ≡ Ok bytes → j < 8 → HoldsByte bytes j
number_bytes v n j bytes is spelled less =
    let same = same_ok (map byte.Byte (little_bytes 8 n)) bytes (subst (λ v. cells_of 8 v ≡ Ok bytes) is spelled) in
    let long = length-bytes_low_first 0 8 n in
    subst (λ bytes. HoldsByte bytes j) same (holds_each (little_bytes 8 n) j (bytes_below 0 8 n) (omega (arith, long, less)))

-- a byte whose bit is 1 holds a number
pub masked : {X : Type 0} (domain : Ghosts X) (c : Cell X) (bytes : List Byte) (j : ℕ) → IsCell domain c bytes → j < 8 → bit_at (mask_of c) j ≡ 1 → HoldsByte bytes j
masked domain (cell.Bytes mask) bytes j h less set = h j less set
masked domain (cell.Kept (known.Number a)) bytes j h less set = number_bytes h.0 h.2.0 j bytes h.2.1 h.1 less
masked domain (cell.Kept a) bytes j h less set = absurd (omega (arith, set, bit_at-zero j))

-- what is known of a value is known of it in the cell that keeps it
kept_known : {X : Type 0} (domain : Ghosts X) (a : AbsVal X) (bytes : List Byte) (v : Value) → cells_of 8 v ≡ Ok bytes → IsAs domain a v → IsCell domain (kept a) bytes
kept_known domain known.Unset bytes v spelled is = nothing_known domain bytes
kept_known domain a bytes v spelled is = (v, spelled, is)

-- ---- joins

-- the first of two pointers into the stack, whether they are one or not
stack_first : {X : Type 0} (domain : Ghosts X) (test : Bool) (a : ℕ) (v : Value) → v ≡ value.Pointer region.Stack a → IsAs domain (cond test (known.Stack a) known.Unset) v
stack_first domain true a v h = h
stack_first domain false a v h = tt

-- what is as known by the first value is as known by the join
value_first : {X : Type 0} (domain : Ghosts X) → Sound domain → (a b : AbsVal X) (v : Value) → IsAs domain a v → IsAs domain (joined_value domain a b) v
value_first domain sound (known.Number a) (known.Number b) v h = (h.0, h.1, sound.first a b h.0 h.2)
value_first domain sound (known.Context a) (known.Context b) v h = (h.0, h.1, sound.first a b h.0 h.2)
value_first domain sound (known.Stack a) (known.Stack b) v h = stack_first domain (a == b) a v h
value_first domain sound a b v h = tt

-- the second of two pointers into the stack
stack_second : {X : Type 0} (domain : Ghosts X) (test : Bool) (a b : ℕ) (v : Value) → (a == b) ≡ test → v ≡ value.Pointer region.Stack b → IsAs domain (cond test (known.Stack a) known.Unset) v
stack_second domain true a b v e h = h ∙ ap (value.Pointer region.Stack) (sym (eqb-true a b e))
stack_second domain false a b v e h = tt

-- what is as known by the second value is as known by the join
value_second : {X : Type 0} (domain : Ghosts X) → Sound domain → (a b : AbsVal X) (v : Value) → IsAs domain b v → IsAs domain (joined_value domain a b) v
value_second domain sound (known.Number a) (known.Number b) v h = (h.0, h.1, sound.second a b h.0 h.2)
value_second domain sound (known.Context a) (known.Context b) v h = (h.0, h.1, sound.second a b h.0 h.2)
value_second domain sound (known.Stack a) (known.Stack b) v h = stack_second domain (a == b) a b v refl h
value_second domain sound a b v h = tt

-- a bit of a bitwise and is one of the first mask
bit_first : (a b j : ℕ) → bit_at (bit_and a b) j ≡ 1 → bit_at a j ≡ 1
bit_first a b j set = let both = bit_at_and a b j in let small = bit_at-lt a j in omega (arith, set, both, small)

-- and of the second
bit_second : (a b j : ℕ) → bit_at (bit_and a b) j ≡ 1 → bit_at b j ≡ 1
bit_second a b j set = let both = bit_at_and a b j in let small = bit_at-lt b j in omega (arith, set, both, small)

-- what is as known by the first cell is as known by the join
pub cell_first : {X : Type 0} (domain : Ghosts X) → Sound domain → (a b : Cell X) (bytes : List Byte) → IsCell domain a bytes → IsCell domain (joined_cell domain a b) bytes
cell_first domain sound (cell.Kept a) (cell.Kept b) bytes h = kept_known domain (joined_value domain a b) bytes h.0 h.1 (value_first domain sound a b h.0 h.2)
cell_first domain sound (cell.Kept (known.Number a)) (cell.Bytes mask) bytes h = λ j less set. masked domain (cell.Kept (known.Number a)) bytes j h less (bit_at_ones 8 j less)
cell_first domain sound (cell.Bytes mask) (cell.Kept (known.Number b)) bytes h = h
cell_first domain sound (cell.Bytes a) (cell.Bytes b) bytes h = λ j less set. h j less (bit_first a b j set)
cell_first domain sound a b bytes h = nothing_known domain bytes

-- what is as known by the second cell is as known by the join
pub cell_second : {X : Type 0} (domain : Ghosts X) → Sound domain → (a b : Cell X) (bytes : List Byte) → IsCell domain b bytes → IsCell domain (joined_cell domain a b) bytes
cell_second domain sound (cell.Kept a) (cell.Kept b) bytes h = kept_known domain (joined_value domain a b) bytes h.0 h.1 (value_second domain sound a b h.0 h.2)
cell_second domain sound (cell.Kept (known.Number a)) (cell.Bytes mask) bytes h = h
cell_second domain sound (cell.Bytes mask) (cell.Kept (known.Number b)) bytes h = λ j less set. masked domain (cell.Kept (known.Number b)) bytes j h less (bit_at_ones 8 j less)
cell_second domain sound (cell.Bytes a) (cell.Bytes b) bytes h = λ j less set. h j less (bit_second a b j set)
cell_second domain sound a b bytes h = nothing_known domain bytes

-- what holds of the join of two cells, and where nothing is known, holds of the joined list's cell
joined_in : {X : Type 0} (domain : Ghosts X) (P : Cell X → Type 0) (a b : List (Cell X)) (k : ℕ) → P (cell.Bytes 0) → P (joined_cell domain (cell_in a k) (cell_in b k)) → P (cell_in (joined_cells domain a b) k)
joined_in domain P [] b k none h = none
joined_in domain P (x ∷ a) [] k none h = none
joined_in domain P (x ∷ a) (y ∷ b) zero none h = h
joined_in domain P (x ∷ a) (y ∷ b) (suc k) none h = joined_in domain P a b k none h

-- a stack that is as known by the first list of cells is as known by the join
pub cells_first : {X : Type 0} (domain : Ghosts X) → Sound domain → (a b : List (Cell X)) (stack : List Byte) → AreCells domain a stack → AreCells domain (joined_cells domain a b) stack
cells_first domain sound a b stack h = record {
  size = h.size;
  each = λ k less. (let bytes = take 8 (drop (8 * k) stack) in
      joined_in domain (λ c. IsCell domain c bytes) a b k (nothing_known domain bytes) (cell_first domain sound (cell_in a k) (cell_in b k) bytes (h.each k less)));
}

-- a stack that is as known by the second list of cells is as known by the join
pub cells_second : {X : Type 0} (domain : Ghosts X) → Sound domain → (a b : List (Cell X)) (stack : List Byte) → AreCells domain b stack → AreCells domain (joined_cells domain a b) stack
cells_second domain sound a b stack h = record {
  size = h.size;
  each = λ k less. (let bytes = take 8 (drop (8 * k) stack) in
      joined_in domain (λ c. IsCell domain c bytes) a b k (nothing_known domain bytes) (cell_second domain sound (cell_in a k) (cell_in b k) bytes (h.each k less)));
}

-- ---- the entry

-- of cells of which nothing is known, none is
unknown_cells : {X : Type 0} (count k : ℕ) → cell_in {X = X} (replicate count (cell.Bytes 0)) k ≡ cell.Bytes 0
unknown_cells zero k = refl
unknown_cells (suc count) zero = refl
unknown_cells (suc count) (suc k) = unknown_cells count k

-- before the first instruction a stack of 512 unset bytes is as known, and any other
pub entry_known : {X : Type 0} (domain : Ghosts X) (stack : List Byte) → length stack ≡ stack_size → AreCells domain entry_cells stack
entry_known domain stack long = record {
  size = long;
  each = λ k less. subst (λ c. IsCell domain c (take 8 (drop (8 * k) stack))) (sym (unknown_cells 64 k)) (nothing_known domain (take 8 (drop (8 * k) stack)));
}

-- the machine's own stack at its entry
pub entry_follows : {X : Type 0} (domain : Ghosts X) → AreCells domain entry_cells (replicate stack_size byte.Unset)
entry_follows domain = entry_known domain (replicate stack_size byte.Unset) (length-replicate stack_size byte.Unset)
