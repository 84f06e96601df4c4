-- Loads give what is known of them.
use Rattle.std.proofs.Common.{◌≡◌, ◌<◌, ◌≤◌, ◌+◌, ◌-◌, ◌*◌, ◌/◌, ◌%◌, ◌^◌, ◌==◌, ℕ, suc, pos, negsuc, Bool, true, false, cond, List, [], length, map, take, drop, Result, Ok, refl, ap, sym, subst, ◌∙◌, arith}
use Rattle.std.proofs.Math.Nat.{mod-eq_of_lt}
use Rattle.std.proofs.lemmas.Bool.{eqb-true, leb-true, le-leb, eq-eqb}
use Rattle.std.proofs.lemmas.List.{take_all, length-take}
use Rattle.std.proofs.lemmas.Nat.{pow_pos, mod_below}
use Rattle.std.proofs.lemmas.Nat.Bits.{bit_at_ones}
use Rattle.std.specs.Prelude.{nat_lt}
use lib.Pow.{mod-mod-pow}
use Rattle.byteorder.specs.Endian.{little_number, little_bytes}
use Rattle.byteorder.specs.Numbers.{little_number-reads_back}
use Rattle.refusals.specs.declared.RefusalNumber.TheVariants as refusal
use Rattle.abs_domain.specs.declared.domain.Domain.{Ghosts}
use Rattle.abs_domain.specs.declared.operations.Conversion.TheVariants as conversion
use Rattle.abs_domain.specs.OperationLaws.{low_fits, sign_extension_fits}
use Rattle.abs_regs.specs.declared.address.Address.{Address}
use Rattle.abs_regs.specs.declared.address.Address.TheVariants as address
use Rattle.abs_regs.specs.declared.value.AbsVal.{AbsVal}
use Rattle.abs_regs.specs.declared.value.AbsVal.TheVariants as known
use Rattle.abs_regs.specs.Steps.{Gives, IsAt}
use Rattle.abs_regs.specs.Values.{IsAs}
use Rattle.bpf_profile.specs.declared.instruction.Extension.{Extension}
use Rattle.bpf_profile.specs.declared.instruction.Extension.TheVariants as extension
use Rattle.bpf_profile.specs.declared.instruction.Size.{Size}
use Rattle.bpf_profile.specs.declared.instruction.Size.TheVariants as size
use Rattle.bpf_profile.specs.declared.machine.Cell.{Cell as Byte}
use Rattle.bpf_profile.specs.declared.machine.Cell.TheVariants as byte
use Rattle.bpf_profile.specs.declared.machine.Region.TheVariants as region
use Rattle.bpf_profile.specs.declared.machine.TrapReason.{TrapReason}
use Rattle.bpf_profile.specs.declared.machine.TrapReason.TheVariants as trap
use Rattle.bpf_profile.specs.declared.machine.Value.{Value}
use Rattle.bpf_profile.specs.declared.machine.Value.TheVariants as value
use Rattle.bpf_profile.specs.Machine.{State, Address as Place, loaded, value_of_cells, cells_of, pieces_from}
use Rattle.bpf_profile.specs.Machine as machine
use Rattle.bpf_profile.specs.Outcomes.{Outcome}
use Rattle.bpf_profile.specs.Words.{bytes_in, bits_in, low, word_of, sign_extended, extended, IsWord}
use Rattle.stack_track.specs.declared.cell.Cell.{Cell}
use Rattle.stack_track.specs.declared.cell.Cell.TheVariants as cell
use Rattle.stack_track.specs.Accesses.{any_loaded, zeros_of, load_context, stack_place, whole_cell, bytes_of_mask, part_of_cell, load_cell, load_stack, load_at}
use Rattle.stack_track.specs.Cells.{mask_of, cell_in, are_set}
use Rattle.stack_track.specs.Steps.{HoldsByte, IsCell, AreCells, loaded_from}
use Rattle.stack_track.proofs.Bytes.{get-drop, AreNumbers, numbers_of, numbers_load, pointer_loads}
use Rattle.stack_track.proofs.Known.{Sound, same_ok, err_not_ok, masked}
use Rattle.stack_track.proofs.Placed.{if_ok, bind_ok, placed_for, stack_placed, stack_place_for, cell_number, place_within, within_window, set_inside}

-- ---- numbers of so many bytes

-- the low bits of a number are those of its low 64 bits
low_of_word : (access : Size) (n : ℕ) → low (bits_in access) (low 64 n) ≡ low (bits_in access) n
low_of_word size.Byte n = mod-mod-pow n 56 8
low_of_word size.HalfWord n = mod-mod-pow n 48 16
low_of_word size.Word n = mod-mod-pow n 32 32
low_of_word size.DoubleWord n = mod-mod-pow n 0 64

-- the low bits of any number are contained in what is loaded without a sign
any_low : {X : Type 0} (domain : Ghosts X) → Sound domain → (access : Size) (n : ℕ) → domain.contains (domain.converted conversion.Low access domain.of_any) (low (bits_in access) n)
any_low domain sound access n =
    subst (domain.contains (domain.converted conversion.Low access domain.of_any)) (low_of_word access n)
    (sound.conversions conversion.Low access domain.of_any (low 64 n) (sound.any (low 64 n) (mod_below n (2 ^ 64) (pow_pos 64))))

-- a sign extension reads the low bits alone
sign_of_low : (bits n : ℕ) → sign_extended bits (low bits n) ≡ sign_extended bits n
sign_of_low bits n = ap (λ (y : ℕ). word_of (cond (nat_lt y (2 ^ (bits - 1))) (pos y) (negsuc (2 ^ bits - suc y)))) (mod-eq_of_lt (mod_below n (2 ^ bits) (pow_pos bits)))

-- any number of so many bytes is contained in what is loaded
pub any_contained : {X : Type 0} (domain : Ghosts X) → Sound domain → (x : Extension) (access : Size) (n : ℕ) → domain.contains (any_loaded domain x access) (extended x (bits_in access) n)
any_contained domain sound extension.Zero access n = any_low domain sound access n
any_contained domain sound extension.Sign access n =
    subst (domain.contains (any_loaded domain extension.Sign access)) (sign_of_low (bits_in access) n)
    (sound.conversions conversion.SignExtended access _ (low (bits_in access) n) (any_low domain sound access n))

-- a word is the word of its signed reading
whole_by : (clear : Bool) (n : ℕ) → n < 2 ^ 64 → word_of (cond clear (pos n) (negsuc (2 ^ 64 - suc n))) ≡ n
whole_by true n h = refl
whole_by false n h = omega (arith, h)

-- a word is what 64 of its bits extend to
whole_word : (x : Extension) (n : ℕ) → IsWord n → extended x 64 n ≡ n
whole_word extension.Zero n h = mod-eq_of_lt h
whole_word extension.Sign n h = ap (λ (y : ℕ). word_of (cond (nat_lt y (2 ^ 63)) (pos y) (negsuc (2 ^ 64 - suc y)))) (mod-eq_of_lt h) ∙ whole_by (nat_lt n (2 ^ 63)) n h

-- 64 bits extend to a word
extended_fits : (x : Extension) (n : ℕ) → IsWord (extended x 64 n)
extended_fits extension.Zero n = low_fits size.DoubleWord n
extended_fits extension.Sign n = sign_extension_fits size.DoubleWord n

-- ---- the context

-- the lowest 0 bits of an aligned address count its bytes
powers : (access : Size) → 2 ^ zeros_of access ≡ bytes_in access
powers size.Byte = refl
powers size.HalfWord = refl
powers size.Word = refl
powers size.DoubleWord = refl

-- they are fewer than a word has
few_zeros : (access : Size) → zeros_of access < 64
few_zeros size.Byte = omega arith
few_zeros size.HalfWord = omega arith
few_zeros size.Word = omega arith
few_zeros size.DoubleWord = omega arith

-- a load from the context gives what is known of it
context_follows : {X : Type 0} (domain : Ghosts X) → Sound domain → (context : ℕ) (outcome : Outcome) (s : State) (d : X) (offset : ℕ) (x : Extension) (access : Size) (a : AbsVal X)
    → domain.contains d offset → load_context domain context d x access ≡ Ok a
    → Gives domain a (loaded_from context outcome s (record { region = region.Context; offset = offset }) x access)
context_follows domain sound context outcome s d offset x access a h e =
    let one = if_ok _ _ refusal.Misaligned a e in
    let two = if_ok _ _ refusal.OutOfBounds a one.1 in
    let bound = (sound.bounds d offset h).1 in
    let inside = leb-true ((domain.bounds_of d).high + bytes_in access) context two.0 in
    let zeros = sound.zeros d (zeros_of access) offset (few_zeros access) one.0 h in
    let aligned = eq-eqb (offset % bytes_in access) 0 (subst (λ (count : ℕ). offset % count ≡ 0) (powers access) zeros) in
    let within = le-leb (offset + bytes_in access) context (omega (arith, bound, inside)) in
    let placed = placed_for context (bytes_in access) offset (record { region = region.Context; offset = offset }) aligned within refl in
    let n : ℕ = little_number (bytes_in access) (drop offset outcome.context) in (
      value.Number (extended x (bits_in access) n),
      ap (λ (r : Result ℕ TrapReason). machine.◌>>=◌ r (λ place. loaded outcome s x (bytes_in access) region.Context place)) placed,
      subst (λ a. IsAs domain a (value.Number (extended x (bits_in access) n))) (same_ok _ a two.1) (extended x (bits_in access) n, refl, any_contained domain sound x access n),
    )

-- ---- cells

-- the value that cells hold, loaded from them
number_again : {X : Type 0} (domain : Ghosts X) → Sound domain → (x : Extension) (a : AbsVal X) (n : ℕ) → IsAs domain a (value.Number n) → IsAs domain a (value.Number (extended x 64 (little_number 8 (little_bytes 8 n))))
number_again domain sound x known.Unset n h = tt
number_again domain sound x (known.Number d) n h =
    let is : n ≡ h.0 = cc (h.1) in
    let inside : domain.contains d n = subst (domain.contains d) (sym is) h.2 in
    let word : IsWord n = sound.words d n inside in
    (n, ap (λ (n : ℕ). value.Number n) (ap (extended x 64) (little_number-reads_back 8 n [] word) ∙ whole_word x n word), inside)
number_again domain sound x (known.Stack offset) n h = absurd (cc (h))
number_again domain sound x (known.Context d) n h = absurd (cc (h.1))

-- eight cells that hold a value load as it
reloaded : {X : Type 0} (domain : Ghosts X) → Sound domain → (x : Extension) (a : AbsVal X) (v : Value) (bytes : List Byte) → cells_of 8 v ≡ Ok bytes → IsAs domain a v → Gives domain a (value_of_cells x 8 bytes)
reloaded domain sound x a (value.Number n) bytes e is =
    subst (λ bytes. Gives domain a (value_of_cells x 8 bytes)) (same_ok (map byte.Byte (little_bytes 8 n)) bytes e)
    (value.Number (extended x 64 (little_number 8 (little_bytes 8 n))), numbers_load x 8 (little_bytes 8 n), number_again domain sound x a n is)
reloaded domain sound x a (value.Pointer region offset) bytes e is =
    subst (λ bytes. Gives domain a (value_of_cells x 8 bytes)) (same_ok (pieces_from 0 8 region offset) bytes e) (value.Pointer region offset, pointer_loads x region offset, is)
reloaded domain sound x a value.Unset bytes e is = absurd (err_not_ok trap.Unset bytes e)

-- the bytes of an access hold numbers where their bits are set
pub set_numbers : {X : Type 0} (domain : Ghosts X) (c : Cell X) (bytes : List Byte) (place count : ℕ) → IsCell domain c bytes → place % 8 + count ≤ 8 → are_set (mask_of c) place count ≡ true
    → AreNumbers (take count (drop (place % 8) bytes)) count
set_numbers domain c bytes place count h within e = numbers_of count (drop (place % 8) bytes) (λ i less.
    (let there = masked domain c bytes (place % 8 + i) h (omega (arith, within, less)) (set_inside (mask_of c) place count i e less) in
    (there.0, get-drop (place % 8) bytes i ∙ there.1, there.2)))

-- cells that hold numbers load as any number
numbers_follow : {X : Type 0} (domain : Ghosts X) (x : Extension) (count : ℕ) (cells : List Byte) (d : X) → AreNumbers cells count → ((n : ℕ) → domain.contains d (extended x (8 * count) n))
    → Gives domain (known.Number d) (value_of_cells x count cells)
numbers_follow domain x count cells d p h =
    let n : ℕ = extended x (8 * count) (little_number count p.bytes) in
    (value.Number n, ap (value_of_cells x count) p.same ∙ numbers_load x count p.bytes, (n, refl, h (little_number count p.bytes)))

-- a load of bytes whose bits are set
masked_follows : {X : Type 0} (domain : Ghosts X) → Sound domain → (c : Cell X) (bytes : List Byte) (place : ℕ) (x : Extension) (access : Size) (a : AbsVal X) → IsCell domain c bytes → place % 8 + bytes_in access ≤ 8
    → bytes_of_mask domain (mask_of c) place x access ≡ Ok a → Gives domain a (value_of_cells x (bytes_in access) (take (bytes_in access) (drop (place % 8) bytes)))
masked_follows domain sound c bytes place x access a h within e =
    let one = if_ok _ _ refusal.UnsetStack a e in
    subst (λ a. Gives domain a (value_of_cells x (bytes_in access) (take (bytes_in access) (drop (place % 8) bytes)))) (same_ok _ a one.1)
    (numbers_follow domain x (bytes_in access) _ (any_loaded domain x access) (set_numbers domain c bytes place (bytes_in access) h within one.0) (any_contained domain sound x access))

-- a load of fewer bytes than a cell has
part_follows : {X : Type 0} (domain : Ghosts X) → Sound domain → (c : Cell X) (bytes : List Byte) (place : ℕ) (x : Extension) (access : Size) (a : AbsVal X) → IsCell domain c bytes → place % 8 + bytes_in access ≤ 8
    → part_of_cell domain c place x access ≡ Ok a → Gives domain a (value_of_cells x (bytes_in access) (take (bytes_in access) (drop (place % 8) bytes)))
part_follows domain sound (cell.Kept (known.Stack offset)) bytes place x access a h within e = absurd (err_not_ok refusal.PointerUsed a e)
part_follows domain sound (cell.Kept (known.Context d)) bytes place x access a h within e = absurd (err_not_ok refusal.PointerUsed a e)
part_follows domain sound c bytes place x access a h within e = masked_follows domain sound c bytes place x access a h within e

-- a load of a whole cell
whole_follows : {X : Type 0} (domain : Ghosts X) → Sound domain → (c : Cell X) (bytes : List Byte) (x : Extension) (a : AbsVal X) → length bytes ≤ 8 → IsCell domain c bytes
    → whole_cell domain c ≡ Ok a → Gives domain a (value_of_cells x 8 bytes)
whole_follows domain sound (cell.Kept b) bytes x a long h e = subst (λ a. Gives domain a (value_of_cells x 8 bytes)) (same_ok b a e) (reloaded domain sound x b h.0 bytes h.1 h.2)
whole_follows domain sound (cell.Bytes mask) bytes x a long h e =
    let one = if_ok (mask == 255) _ refusal.UnsetStack a e in
    let full = eqb-true mask 255 one.0 in
    let each : (i : ℕ) → i < 8 → HoldsByte bytes i = λ i less. h i less (ap (λ (mask : ℕ). mask / 2 ^ i % 2) full ∙ bit_at_ones 8 i less) in
    let numbers : AreNumbers bytes 8 = subst (λ bytes. AreNumbers bytes 8) (take_all 8 bytes long) (numbers_of 8 bytes each) in
    subst (λ a. Gives domain a (value_of_cells x 8 bytes)) (same_ok (known.Number domain.of_any) a one.1)
    (numbers_follow domain x 8 bytes domain.of_any numbers (λ n. sound.any (extended x 64 n) (extended_fits x n)))

-- a load from a cell gives what is known of it
cell_follows : {X : Type 0} (domain : Ghosts X) → Sound domain → (c : Cell X) (bytes : List Byte) (place : ℕ) (x : Extension) (access : Size) (a : AbsVal X) → length bytes ≤ 8 → IsCell domain c bytes
    → place % 8 + bytes_in access ≤ 8 → load_cell domain c place x access ≡ Ok a → Gives domain a (value_of_cells x (bytes_in access) (take (bytes_in access) (drop (place % 8) bytes)))
cell_follows domain sound c bytes place x size.DoubleWord a long h within e =
    let start : place % 8 ≡ 0 = omega (arith, within) in
    let same : take 8 (drop (place % 8) bytes) ≡ bytes = ap (λ (from : ℕ). take 8 (drop from bytes)) start ∙ take_all 8 bytes long in
    subst (λ bytes. Gives domain a (value_of_cells x 8 bytes)) (sym same) (whole_follows domain sound c bytes x a long h e)
cell_follows domain sound c bytes place x access a long h within e = part_follows domain sound c bytes place x access a h within e

-- ---- the stack

-- a cell has eight bytes at most
short_window : {A : Type 0} (m : ℕ) (xs : List A) → length (take 8 (drop m xs)) ≤ 8
short_window m xs = let e = length-take 8 (drop m xs) in omega (arith, e)

-- a load from the stack gives what is known of it
stack_follows : {X : Type 0} (domain : Ghosts X) → Sound domain → (context : ℕ) (outcome : Outcome) (s : State) (cells : List (Cell X)) (offset : ℕ) (x : Extension) (access : Size) (a : AbsVal X)
    → AreCells domain cells s.stack → load_stack domain cells offset x access ≡ Ok a
    → Gives domain a (loaded_from context outcome s (record { region = region.Stack; offset = offset }) x access)
stack_follows domain sound context outcome s cells offset x access a h e =
    let placed = bind_ok (stack_place offset access) (λ place. load_cell domain (cell_in cells (place / 8)) place x access) a e in
    let place : ℕ = placed.0 in
    let p = stack_placed access offset place placed.1 in
    let within = place_within access offset place p in
    let known = h.each (place / 8) (cell_number access offset place p) in
    let bytes : List Byte = take 8 (drop (8 * (place / 8)) s.stack) in
    let gives = cell_follows domain sound (cell_in cells (place / 8)) bytes place x access a (short_window (8 * (place / 8)) s.stack) known within placed.2 in
    let same = ap (value_of_cells x (bytes_in access)) (within_window s.stack place (bytes_in access) within) in
    let goes = ap (λ (r : Result ℕ TrapReason). machine.◌>>=◌ r (λ place. loaded outcome s x (bytes_in access) region.Stack place)) (stack_place_for context access offset place p) in
    subst (Gives domain a) (same ∙ sym goes) gives

-- a load that isn't refused doesn't trap, and gives what is known of it
pub load_follows : {X : Type 0} (domain : Ghosts X) → Sound domain → (context : ℕ) (outcome : Outcome) (s : State) (cells : List (Cell X)) (to : Address X) (at : Place) (x : Extension) (access : Size) (a : AbsVal X)
    → AreCells domain cells s.stack → IsAt domain to at → load_at domain context cells to x access ≡ Ok a → Gives domain a (loaded_from context outcome s at x access)
load_follows domain sound context outcome s cells (address.Context d) at x access a h is e =
    subst (λ at. Gives domain a (loaded_from context outcome s at x access)) (sym is.1) (context_follows domain sound context outcome s d is.0 x access a is.2 e)
load_follows domain sound context outcome s cells (address.Stack offset) at x access a h is e =
    subst (λ at. Gives domain a (loaded_from context outcome s at x access)) (sym is) (stack_follows domain sound context outcome s cells offset x access a h e)
