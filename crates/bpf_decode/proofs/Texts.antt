-- The eight bytes of a slot, and the slots that bytes are read as.
use Rattle.std.proofs.Common.{◌≡◌, refl, sym, ap, ◌∙◌, ℕ, zero, suc, ◌+◌, ◌*◌, ◌/◌, ◌%◌, ◌^◌, ◌<◌, ◌≤◌, Bool, true, false, cond, eqb, ◌&&◌, List, [], ◌∷◌, ◌++◌, length, take, drop, map, get_or, slice_get, Option, arith}
use Rattle.std.specs.Prelude.{IsOk, ◌==◌}
use Rattle.std.specs.List.{flat_map, AllByRecursion}
use Rattle.std.proofs.lemmas.Bool.{eqb-true, and_parts, and_left, ne_eqb, cond-false}
use Rattle.std.proofs.lemmas.List.{drop_at, get_or-drop, length-append, length-drop, map-append, nil_from_length}
use Rattle.std.proofs.Math.Seq.{take-suc}
use Rattle.std.specs.Simd.{first_chunks}
use Rattle.byteorder.specs.Endian.{little_number, little_bytes}
use Rattle.byteorder.specs.Numbers.{little_number-reads_back, little_from-lt}
use Rattle.bpf_profile.specs.declared.slot.Slot.{Slot}
use Rattle.bpf_profile.specs.declared.slot.Slot.TheVariants.{Ins, Tail}
use Rattle.bpf_profile.specs.Opcodes.{opcode_of, immediate_opcode}
use Rattle.bpf_profile.specs.Slots.{instruction_of}
use Rattle.bpf_profile.specs.Spelling.{slot_bytes, IsSlot, is_wide}
use Rattle.bpf_profile.specs.SpellingFaults.{slot_with, slot_at, slots_at}
use Rattle.bpf_decode.proofs.Runs.{IsRun}

abbrev pub IsBytes : List ℕ → Type 0
IsBytes bytes = (i : ℕ) → get_or bytes i 0 < 256

IsBytes-drop : (n : ℕ) (bytes : List ℕ) → IsBytes bytes → IsBytes (drop n bytes)
IsBytes-drop n bytes fits i = rw get_or-drop (fits (n + i))

-- ---- from slots to bytes and back

pub length_slot : (slot : Slot) → length (slot_bytes slot) ≡ 8
length_slot (Ins op dst src off imm) = refl
length_slot (Tail imm) = refl

pub length_text : (slots : List Slot) → length (flat_map slot_bytes slots) ≡ 8 * length slots
length_text [] = refl
length_text (slot ∷ slots) = omega (arith, length-append (slot_bytes slot) (flat_map slot_bytes slots), length_slot slot, length_text slots)

-- no instruction has the opcode 0
abbrev IsNamed : Slot → Type 0
IsNamed (Ins op dst src off imm) = 0 < op
IsNamed (Tail imm) = Unit {0}

named : (slot : Slot) (next : Option Slot) → IsOk (instruction_of slot next) → IsNamed slot
unfolding instruction_of opcode_of immediate_opcode
named (Ins zero dst src off imm) next ok = absurd cc
named (Ins (suc op) dst src off imm) next ok = omega arith
named (Tail imm) next ok = tt

ins_again : (op dst src off imm : ℕ) → 0 < op → dst < 16 → slot_with op (dst + 16 * src) off imm ≡ Ins op dst src off imm
ins_again op dst src off imm some small =
    let not_zero : (op == 0) ≡ false = ne_eqb op 0 (λ e. omega arith) in
    let low : (dst + 16 * src) % 16 ≡ dst = omega arith in
    let high : (dst + 16 * src) / 16 ≡ src = omega arith in
    cond-false _ (Tail imm) (Ins op ((dst + 16 * src) % 16) ((dst + 16 * src) / 16) off imm) (and_left (op == 0) _ not_zero) ∙ rw (low, high) refl

slot_again : (slot : Slot) (rest : List ℕ) → IsSlot slot → IsNamed slot → slot_at (slot_bytes slot ++ rest) ≡ slot
slot_again (Ins op dst src off imm) rest fits some =
    let o = little_number-reads_back 2 off (little_bytes 4 imm ++ rest) (omega arith) in
    let i = little_number-reads_back 4 imm rest (omega arith) in
    ap (λ (n : ℕ). slot_with op (dst + 16 * src) n (little_number 4 (little_bytes 4 imm ++ rest))) o
    ∙ ap (λ (n : ℕ). slot_with op (dst + 16 * src) off n) i
    ∙ ins_again op dst src off imm some fits.1
slot_again (Tail imm) rest fits some = ap (λ (n : ℕ). Tail n) (little_number-reads_back 4 imm rest (omega arith))

slots_step : (slot : Slot) (slots : List Slot) → IsSlot slot → IsNamed slot → slots_at (length slots) (flat_map slot_bytes slots) ≡ slots
    → slots_at (suc (length slots)) (flat_map slot_bytes (slot ∷ slots)) ≡ slot ∷ slots
unfolding slots_at
slots_step slot slots fits some rest =
    let after = drop_at (slot_bytes slot) (flat_map slot_bytes slots) 8 (length_slot slot) in
    rw (after, rest, slot_again slot (flat_map slot_bytes slots) fits some) refl

pub slots_again : (tail : Bool) (slots : List Slot) → IsRun tail slots → AllByRecursion IsSlot slots → slots_at (length slots) (flat_map slot_bytes slots) ≡ slots
unfolding slots_at
slots_again tail [] run fits = refl
slots_again true (Ins op dst src off imm ∷ slots) run fits = absurd run
slots_again true (Tail high ∷ slots) run fits = slots_step (Tail high) slots fits.0 tt (slots_again false slots run fits.1)
slots_again false (slot ∷ slots) run fits = slots_step slot slots fits.0 (named slot (slice_get slots 0) run.0) (slots_again (is_wide slot) slots run.1 fits.1)

-- ---- from bytes to slots and back

bytes_if : (tail : Bool) (op registers off imm : ℕ) → (tail ≡ true → (op ≡ 0) × (registers ≡ 0) × (off ≡ 0))
    → slot_bytes (cond tail (Tail imm) (Ins op (registers % 16) (registers / 16) off imm)) ≡ op ∷ registers ∷ (little_bytes 2 off ++ little_bytes 4 imm)
bytes_if true op registers off imm zeros = let e = zeros refl in rw (e.0, e.1, e.2) refl
bytes_if false op registers off imm zeros =
    let whole : registers % 16 + 16 * (registers / 16) ≡ registers = omega arith in
    rw whole refl

all_zero : (op registers off : ℕ) → ((op == 0) && ((registers == 0) && (off == 0))) ≡ true → (op ≡ 0) × (registers ≡ 0) × (off ≡ 0)
all_zero op registers off e =
    let a = and_parts (eqb op 0) (eqb registers 0 && eqb off 0) e in
    let b = and_parts (eqb registers 0) (eqb off 0) a.1 in
    (eqb-true op 0 a.0, eqb-true registers 0 b.0, eqb-true off 0 b.1)

two_back : (c d : ℕ) → c < 256 → d < 256 → little_bytes 2 (c + 256 * (d + 256 * 0)) ≡ c ∷ d ∷ []
two_back c d hc hd =
    let n = c + 256 * (d + 256 * 0) in
    let e0 : n % 256 ≡ c = omega arith in
    let e1 : n / 256 % 256 ≡ d = omega arith in
    ap (λ (x : ℕ). x ∷ (n / 256 % 256) ∷ []) e0 ∙ ap (λ (x : ℕ). c ∷ x ∷ []) e1

four_back : (c d e f : ℕ) → c < 256 → d < 256 → e < 256 → f < 256 → little_bytes 4 (c + 256 * (d + 256 * (e + 256 * (f + 256 * 0)))) ≡ c ∷ d ∷ e ∷ f ∷ []
four_back c d e f hc hd he hf =
    let n = c + 256 * (d + 256 * (e + 256 * (f + 256 * 0))) in
    let e0 : n % 256 ≡ c = omega arith in
    let e1 : n / 256 % 256 ≡ d = omega arith in
    let e2 : n / 65536 % 256 ≡ e = omega arith in
    let e3 : n / 16777216 % 256 ≡ f = omega arith in
    rw (e0, e1, e2, e3) refl

eight_back : (bytes : List ℕ) → 8 ≤ length bytes → IsBytes bytes → slot_bytes (slot_at bytes) ++ drop 8 bytes ≡ bytes
eight_back (a ∷ b ∷ c ∷ d ∷ e ∷ f ∷ g ∷ h ∷ rest) long fits =
    let off = c + 256 * (d + 256 * 0) in
    let imm = e + 256 * (f + 256 * (g + 256 * (h + 256 * 0))) in
    ap (λ (xs : List ℕ). xs ++ rest) (bytes_if ((a == 0) && ((b == 0) && (off == 0))) a b off imm (all_zero a b off))
    ∙ ap (λ (xs : List ℕ). (a ∷ b ∷ (xs ++ little_bytes 4 imm)) ++ rest) (two_back c d (fits 2) (fits 3))
    ∙ ap (λ (xs : List ℕ). (a ∷ b ∷ c ∷ d ∷ xs) ++ rest) (four_back e f g h (fits 4) (fits 5) (fits 6) (fits 7))
eight_back bytes long fits = absurd (omega arith)

pub text_again : (count : ℕ) (bytes : List ℕ) → length bytes ≡ 8 * count → IsBytes bytes → flat_map slot_bytes (slots_at count bytes) ≡ bytes
unfolding slots_at
text_again zero bytes len fits = sym (nil_from_length bytes len)
text_again (suc count) bytes len fits =
    let rest = text_again count (drop 8 bytes) (omega (arith, length-drop 8 bytes)) (IsBytes-drop 8 bytes fits) in
    ap (λ (xs : List ℕ). slot_bytes (slot_at bytes) ++ xs) rest ∙ eight_back bytes (omega arith) fits

fits_if : (tail : Bool) (op registers off imm : ℕ) → op < 2 ^ 8 → registers < 2 ^ 8 → off < 2 ^ 16 → imm < 2 ^ 32
    → IsSlot (cond tail (Tail imm) (Ins op (registers % 16) (registers / 16) off imm))
fits_if true op registers off imm ho hr hf hi = hi
fits_if false op registers off imm ho hr hf hi = (ho, omega arith, omega arith, hf, hi)

pub slot_fits : (bytes : List ℕ) → IsBytes bytes → IsSlot (slot_at bytes)
slot_fits bytes fits =
    fits_if _ (get_or bytes 0 0) (get_or bytes 1 0) (little_number 2 (drop 2 bytes)) (little_number 4 (drop 4 bytes)) (fits 0) (fits 1)
    (little_from-lt 0 2 (drop 2 bytes) (IsBytes-drop 2 bytes fits)) (little_from-lt 0 4 (drop 4 bytes) (IsBytes-drop 4 bytes fits))

pub slots_fit : (count : ℕ) (bytes : List ℕ) → IsBytes bytes → AllByRecursion IsSlot (slots_at count bytes)
unfolding slots_at
slots_fit zero bytes fits = tt
slots_fit (suc count) bytes fits = (slot_fits bytes fits, slots_fit count (drop 8 bytes) (IsBytes-drop 8 bytes fits))

pub length_slots : (count : ℕ) (bytes : List ℕ) → length (slots_at count bytes) ≡ count
unfolding slots_at
length_slots zero bytes = refl
length_slots (suc count) bytes = ap suc (length_slots count (drop 8 bytes))

-- ---- eight bytes at a time

slot_first : (bytes : List ℕ) → slot_at (take 8 bytes) ≡ slot_at bytes
slot_first (a ∷ b ∷ c ∷ d ∷ e ∷ f ∷ g ∷ h ∷ rest) = refl
slot_first bytes = refl

pub chunk_slots : (count : ℕ) (bytes : List ℕ) → map slot_at (first_chunks 8 count bytes) ≡ slots_at count bytes
unfolding slots_at
chunk_slots zero bytes = refl
chunk_slots (suc count) bytes = rw (slot_first bytes, chunk_slots count (drop 8 bytes)) refl

-- the slots of one chunk more
pub one_chunk_more : (chunks : List (List ℕ)) (place : ℕ) → place < length chunks → map slot_at (take place chunks) ++ (slot_at (get_or chunks place []) ∷ []) ≡ map slot_at (take (place + 1) chunks)
one_chunk_more chunks place inside =
    let next : suc place ≡ place + 1 = omega arith in
    sym (map-append slot_at (take place chunks) (get_or chunks place [] ∷ []))
    ∙ ap (map slot_at) (sym (take-suc chunks place [] inside))
    ∙ ap (λ (n : ℕ). map slot_at (take n chunks)) next
