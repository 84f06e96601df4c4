-- Where accesses go, and which bits of a cell they touch.
use Rattle.std.proofs.Common.{◌≡◌, ◌<◌, ◌≤◌, ◌+◌, ◌-◌, ◌*◌, ◌/◌, ◌%◌, ◌^◌, ◌==◌, ◌⊎◌, inl, inr, ℕ, Bool, true, false, cond, List, take, drop, Result, Ok, Err, refl, ap, sym, ◌∙◌, arith}
use Rattle.std.proofs.lemmas.Bool.{cases_lt, eqb-true, leb-true}
use Rattle.std.proofs.lemmas.Nat.{pow_pos}
use Rattle.std.proofs.lemmas.Nat.Bits.{bit_at-lt, bit_at_and, bit_at_or, bit_at-zero, bit_at_ones, bit_at_ones_above, bit_at_cat_low, bit_at_cat_high}
use Rattle.std.specs.Int.{bit_at}
use Rattle.std.specs.Prelude.{slice_get, nat_le, bit_and, bit_or}
use Rattle.refusals.specs.declared.RefusalNumber.{RefusalNumber}
use Rattle.abs_regs.specs.Transfers.{◌>>=◌}
use Rattle.bpf_profile.specs.declared.instruction.Size.{Size}
use Rattle.bpf_profile.specs.declared.instruction.Size.TheVariants as size
use Rattle.bpf_profile.specs.declared.machine.Region.TheVariants as region
use Rattle.bpf_profile.specs.Limits.{stack_size}
use Rattle.bpf_profile.specs.Machine.{Address, place_of, place_for, region_size}
use Rattle.bpf_profile.specs.Words.{bytes_in}
use Rattle.stack_track.specs.Accesses.{stack_place}
use Rattle.stack_track.specs.Cells.{bits_at, are_set}
use Rattle.stack_track.proofs.Bytes.{same_by_get, get-take, get-take_past, get-drop}
use Rattle.stack_track.proofs.Known.{same_ok, err_not_ok}

-- ---- results

-- a test whose failure is an error
pub if_ok : {A E : Type 0} (test : Bool) (r : Result A E) (e : E) (a : A) → cond test r (Err e) ≡ Ok a → (test ≡ true) × (r ≡ Ok a)
if_ok true r e a h = (refl, h)
if_ok false r e a h = absurd (err_not_ok e a h)

-- two steps in a row
pub bind_ok : {A B : Type 0} (r : Result A RefusalNumber) (f : A → Result B RefusalNumber) (b : B) → (r >>= f) ≡ Ok b → (a : A) × (r ≡ Ok a) × (f a ≡ Ok b)
bind_ok (Ok a) f b h = (a, refl, h)
bind_ok (Err e) f b h = absurd (err_not_ok e b h)

-- ---- places

-- an access that is aligned and lies in its region has its place
pub placed_for : (context count place : ℕ) (at : Address) → (at.offset % count == 0) ≡ true → nat_le (place_of at.region at.offset + count) (region_size context at.region) ≡ true
    → place_of at.region at.offset ≡ place → place_for context count at ≡ Ok place
placed_for context count place at aligned inside same = rw (aligned, inside) (ap (λ (place : ℕ). Ok place) same)

-- an access to the stack that is aligned and lies in it
pub record IsPlaced (size : Size) (offset place : ℕ) : Type 0 where
  pub aligned : (offset % bytes_in size == 0) ≡ true
  pub inside : nat_le (place_of region.Stack offset + bytes_in size) stack_size ≡ true
  pub same : place_of region.Stack offset ≡ place

-- a place that is found is one
pub stack_placed : (size : Size) (offset place : ℕ) → stack_place offset size ≡ Ok place → IsPlaced size offset place
stack_placed size offset place e =
    let one = if_ok _ _ _ place e in
    let two = if_ok _ _ _ place one.1 in
    record { aligned = one.0; inside = two.0; same = same_ok _ place two.1 }

-- the machine finds the same place
pub stack_place_for : (context : ℕ) (size : Size) (offset place : ℕ) → IsPlaced size offset place → place_for context (bytes_in size) (record { region = region.Stack; offset = offset }) ≡ Ok place
stack_place_for context size offset place p = placed_for context (bytes_in size) place (record { region = region.Stack; offset = offset }) p.aligned p.inside p.same

-- it lies in the stack
pub place_inside : (size : Size) (offset place : ℕ) → IsPlaced size offset place → place + bytes_in size ≤ stack_size
place_inside size offset place p =
    let inside = leb-true (place_of region.Stack offset + bytes_in size) stack_size p.inside in
    let same = p.same in
    omega (arith, inside, same)

-- an access has a byte
some_bytes : (access : Size) → 0 < bytes_in access
some_bytes size.Byte = omega arith
some_bytes size.HalfWord = omega arith
some_bytes size.Word = omega arith
some_bytes size.DoubleWord = omega arith

-- in one of 64 cells
pub cell_number : (size : Size) (offset place : ℕ) → IsPlaced size offset place → place / 8 < 64
cell_number size offset place p = let inside = place_inside size offset place p in let some = some_bytes size in omega (arith, inside, some)

-- and no further than it goes
pub place_within : (size : Size) (offset place : ℕ) → IsPlaced size offset place → place % 8 + bytes_in size ≤ 8
place_within access offset place p = by_size access (eqb-true (offset % bytes_in access) 0 p.aligned)
  where
    by_size : (access : Size) → offset % bytes_in access ≡ 0 → place % 8 + bytes_in access ≤ 8
    by_size size.Byte h = omega arith
    by_size size.HalfWord h = let same = p.same in omega (arith, h, same)
    by_size size.Word h = let same = p.same in omega (arith, h, same)
    by_size size.DoubleWord h = let same = p.same in omega (arith, h, same)

-- the bytes of an access are bytes of its cell
pub within_window : {A : Type 0} (xs : List A) (place count : ℕ) → place % 8 + count ≤ 8 → take count (drop (place % 8) (take 8 (drop (8 * (place / 8)) xs))) ≡ take count (drop place xs)
within_window xs place count h = same_by_get _ _ (λ i. by_place i (cases_lt i count))
  where
    there : (i : ℕ) → 8 * (place / 8) + (place % 8 + i) ≡ place + i
    there i = omega arith

    by_place : (i : ℕ) → (i < count) ⊎ (count ≤ i) → slice_get (take count (drop (place % 8) (take 8 (drop (8 * (place / 8)) xs)))) i ≡ slice_get (take count (drop place xs)) i
    by_place i (inl less) =
        get-take count _ i less
        ∙ (get-drop (place % 8) _ i
        ∙ (get-take 8 _ (place % 8 + i) (omega (arith, h, less))
        ∙ (get-drop (8 * (place / 8)) xs (place % 8 + i)
        ∙ (ap (slice_get xs) (there i)
        ∙ (sym (get-drop place xs i) ∙ sym (get-take count (drop place xs) i less))))))
    by_place i (inr more) = get-take_past count _ i more ∙ sym (get-take_past count (drop place xs) i more)

-- ---- bits

-- 0 adds nothing
no_more : (n : ℕ) → n + 0 ≡ n
no_more n = omega arith

-- the bits of an access
pub one_inside : (count place i : ℕ) → i < count → bit_at (bits_at place count) (place % 8 + i) ≡ 1
one_inside count place i less =
    let some = pow_pos (place % 8) in
    let back : place % 8 + i - place % 8 ≡ i = omega arith in
    ap (λ (n : ℕ). bit_at n (place % 8 + i)) (sym (no_more (bits_at place count)))
    ∙ (bit_at_cat_high (2 ^ count - 1) (place % 8) 0 (place % 8 + i) some (omega arith)
    ∙ (ap (bit_at (2 ^ count - 1)) back ∙ bit_at_ones count i less))

-- bits that are known to be set are
pub set_inside : (mask place count i : ℕ) → are_set mask place count ≡ true → i < count → bit_at mask (place % 8 + i) ≡ 1
set_inside mask place count i e less =
    let same = ap (λ (n : ℕ). bit_at n (place % 8 + i)) (eqb-true (bit_and mask (bits_at place count)) (bits_at place count) e) in
    let both = bit_at_and mask (bits_at place count) (place % 8 + i) in
    let one = one_inside count place i less in
    let small = bit_at-lt mask (place % 8 + i) in
    omega (arith, same, both, one, small)

-- the others are 0
none_outside : (count place j : ℕ) → (j < place % 8) ⊎ (place % 8 + count ≤ j) → bit_at (bits_at place count) j ≡ 0
none_outside count place j (inl less) =
    ap (λ (n : ℕ). bit_at n j) (sym (no_more (bits_at place count))) ∙ (bit_at_cat_low (2 ^ count - 1) (place % 8) 0 j less ∙ bit_at-zero j)
none_outside count place j (inr more) =
    ap (λ (n : ℕ). bit_at n j) (sym (no_more (bits_at place count)))
    ∙ (bit_at_cat_high (2 ^ count - 1) (place % 8) 0 j (pow_pos (place % 8)) (omega (arith, more)) ∙ bit_at_ones_above count (j - place % 8) (omega (arith, more)))

-- a bit outside the access that is set was set before
pub set_outside : (mask place count j : ℕ) → (j < place % 8) ⊎ (place % 8 + count ≤ j) → bit_at (bit_or mask (bits_at place count)) j ≡ 1 → bit_at mask j ≡ 1
set_outside mask place count j outside set =
    let either = bit_at_or mask (bits_at place count) j in
    let none = none_outside count place j outside in
    omega (arith, set, either, none)
