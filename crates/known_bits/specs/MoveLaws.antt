-- Shifts and conversions, each of whose bits is one bit of their operand, or 0.
use Rattle.std.proofs.Common.{◌≡◌, ℕ, suc, pos, negsuc, ◌+◌, ◌-◌, ◌*◌, ◌/◌, ◌%◌, ◌^◌, ◌<◌, ◌≤◌, min, ◌⊎◌, inl, inr, refl, sym, ap, ◌∙◌, subst, arith, Bool, true, false, cond}
use Rattle.std.specs.Prelude.{nat_lt}
use Rattle.std.specs.Int.{int_shr}
use Rattle.std.proofs.Math.Nat.{pow-suc, add-zero}
use Rattle.std.proofs.lemmas.Bool.{cases_lt, ltb-true, ltb-false}
use Rattle.std.proofs.lemmas.Nat.{mod_below, pow_pos, shr_le}
use Rattle.std.proofs.lemmas.Nat.Bits.{bit_at_ones}
use Rattle.bpf_profile.specs.Words.{low, bits_in, word_of, sign_extended, converted}
use Rattle.bpf_profile.specs.declared.instruction.ByteOrder.TheVariants as order
use Rattle.bpf_profile.specs.declared.instruction.Size.{Size}
use Rattle.bpf_profile.specs.declared.instruction.Size.TheVariants as size
use Rattle.abs_domain.specs.OperationLaws.{shift_fits, conversion_fits}
use Rattle.abs_domain.specs.Operations.{word_shift, word_conversion}
use Rattle.abs_domain.specs.declared.operations.Bits.{Bits}
use Rattle.abs_domain.specs.declared.operations.Conversion.{Conversion}
use Rattle.abs_domain.specs.declared.operations.Conversion.TheVariants as conversion
use Rattle.abs_domain.specs.declared.operations.Shift.{Shift}
use Rattle.abs_domain.specs.declared.operations.Shift.TheVariants as shift
use Rattle.known_bits.specs.BitLaws.{bit, bit_is, bit_small, bit_above, bit_of_low, bit_of_low_above, bit_of_right, bit_of_pair_low, bit_of_pair_high, bit_of_complement}
use Rattle.known_bits.specs.KnownBitsTable.{KnownContains, known_shift, known_conversion}
use Rattle.known_bits.specs.PlaceLaws.{Place, places, from_places, renamed}
use lib.Pow.{high_ones, pow_mono}

-- one bit of a function's result: a bit of its argument, or 0
pub data Moved (f : ℕ → ℕ) (i : ℕ) : Type 0 where
  taken : (j : ℕ) → ((x : ℕ) → bit (f x) i ≡ bit x j) → Moved f i
  cleared : ((x : ℕ) → bit (f x) i ≡ 0) → Moved f i

moved_place : (f : ℕ → ℕ) (i : ℕ) (a : Bits) (n : ℕ) → KnownContains a n → Moved f i → Place (bit (f a.value) i) (bit (f a.unknown) i) (bit (f n) i)
moved_place f i a n h (taken j e) = renamed _ _ _ (places a n h j) (e a.value) (e a.unknown) (e n)
moved_place f i a n h (cleared e) =
    let p = e a.value in
    let q = e a.unknown in
    let r = e n in
    record { apart = omega arith; from = omega arith; upto = omega arith }

pub everywhere : (f : ℕ → ℕ) → ((x : ℕ) → f x < 2 ^ 64) → ((i : ℕ) → i < 64 → Moved f i) → (i : ℕ) → (i < 64) ⊎ (64 ≤ i) → Moved f i
everywhere f fits h i (inl p) = h i p
everywhere f fits h i (inr q) = cleared (λ x. bit_above (f x) 64 i (fits x) q)

moved_contained : (f : ℕ → ℕ) → ((x : ℕ) → f x < 2 ^ 64) → ((i : ℕ) → i < 64 → Moved f i) → (a : Bits) (n : ℕ) → KnownContains a n → KnownContains (record { value = f a.value; unknown = f a.unknown }) (f n)
moved_contained f fits h a n k =
    from_places (record { value = f a.value; unknown = f a.unknown }) (f n) (fits n) (λ i. moved_place f i a n k (everywhere f fits h i (cases_lt i 64)))

-- shifted to the left, behind a conversion to a word
left_bit : (x count i : ℕ) → i < 64 → bit (x % 2 ^ 64 * 2 ^ count % 2 ^ 64) i ≡ bit (x % 2 ^ 64 * 2 ^ count + 0) i
left_bit x count i within = bit_of_low (x % 2 ^ 64 * 2 ^ count) 64 i within ∙ ap (λ y. bit y i) (sym (add-zero (x % 2 ^ 64 * 2 ^ count)))

left_moved : (count i : ℕ) → i < 64 → (i < count) ⊎ (count ≤ i) → Moved (λ x. x % 2 ^ 64 * 2 ^ count % 2 ^ 64) i
left_moved count i within (inl p) =
    cleared (λ x. left_bit x count i within ∙ bit_of_pair_low (x % 2 ^ 64) count 0 i p ∙ bit_above 0 0 i (omega arith) (omega arith))
left_moved count i within (inr q) =
    taken (i - count) (λ x. left_bit x count i within ∙ bit_of_pair_high (x % 2 ^ 64) count 0 i (pow_pos count) q ∙ bit_of_low x 64 (i - count) (omega arith))

right_moved : (count i : ℕ) → (count + i < 64) ⊎ (64 ≤ count + i) → Moved (λ x. x % 2 ^ 64 / 2 ^ count) i
right_moved count i (inl p) = taken (count + i) (λ x. bit_of_right (x % 2 ^ 64) count i ∙ bit_of_low x 64 (count + i) p)
right_moved count i (inr q) = cleared (λ x. bit_of_right (x % 2 ^ 64) count i ∙ bit_of_low_above x 64 (count + i) q)

highest_set : (k y : ℕ) → 2 ^ k ≤ y → y < 2 ^ suc k → bit y k ≡ 1
highest_set k y h p =
    let e : y ≡ 1 * 2 ^ k + (y - 2 ^ k) = omega arith in
    let rest : y - 2 ^ k < 2 ^ k = omega (arith, pow-suc 2 k) in
    let here : k ≤ k = omega arith in
    let zeroth : k - k ≡ 0 = omega arith in
    ap (λ x. bit x k) e ∙ bit_of_pair_high 1 k (y - 2 ^ k) k rest here ∙ ap (bit 1) zeroth ∙ bit_is 1 0

complement_bit : (y i : ℕ) → y < 2 ^ 64 → i < 64 → bit (2 ^ 64 - suc y) i ≡ 1 - bit y i
complement_bit y i fits within =
    let e : 2 ^ 64 - suc y ≡ 2 ^ 64 - 1 - y = omega arith in
    ap (λ x. bit x i) e ∙ bit_of_complement y i fits within

twice : (x : ℕ) → x < 2 → 1 - (1 - x) ≡ x
twice x h = omega arith

-- a shift of a negative number, whose complement is shifted
negative_right : (y count i : ℕ) → y < 2 ^ 64 → i < 64 → bit (2 ^ 64 - suc ((2 ^ 64 - suc y) / 2 ^ count)) i ≡ 1 - bit (2 ^ 64 - suc y) (count + i)
negative_right y count i fits within =
    let less = shr_le (2 ^ 64 - suc y) count in
    let small : (2 ^ 64 - suc y) / 2 ^ count < 2 ^ 64 = omega arith in
    complement_bit ((2 ^ 64 - suc y) / 2 ^ count) i small within ∙ ap (λ x. 1 - x) (bit_of_right (2 ^ 64 - suc y) count i)

-- the ones above the bits of a negative number, and these bits
extended_parts : (j k y : ℕ) → j + suc k ≡ 64 → y < 2 ^ suc k → 2 ^ 64 - suc (2 ^ suc k - suc y) ≡ (2 ^ j - 1) * 2 ^ suc k + y
extended_parts j k y sum fits =
    let ones = high_ones j (suc k) in
    let whole : 2 ^ (j + suc k) ≡ 2 ^ 64 = ap (λ x. 2 ^ x) sum in
    let within : 2 ^ suc k ≤ 2 ^ (j + suc k) = pow_mono (omega arith) in
    omega arith

-- a shift that copies the sign
signed_right : (test : Bool) (y count i : ℕ) → y < 2 ^ 64 → nat_lt y (2 ^ 63) ≡ test → (count + i < 64) ⊎ (64 ≤ count + i) → i < 64
    → bit (word_of (int_shr (cond test (pos y) (negsuc (2 ^ 64 - suc y))) count)) i ≡ bit y (min (count + i) 63)
signed_right true y count i fits e (inl p) within =
    let here : min (count + i) 63 ≡ count + i = omega arith in
    bit_of_right y count i ∙ ap (bit y) (sym here)
signed_right true y count i fits e (inr q) within =
    let here : min (count + i) 63 ≡ 63 = omega arith in
    let below : y < 2 ^ 63 = ltb-true y (2 ^ 63) e in
    let at : 63 ≤ 63 = omega arith in
    bit_of_right y count i ∙ bit_above y 64 (count + i) fits q ∙ sym (bit_above y 63 63 below at) ∙ ap (bit y) (sym here)
signed_right false y count i fits e (inl p) within =
    let here : min (count + i) 63 ≡ count + i = omega arith in
    negative_right y count i fits within ∙ ap (λ x. 1 - x) (complement_bit y (count + i) fits p) ∙ twice (bit y (count + i)) (bit_small y (count + i)) ∙ ap (bit y) (sym here)
signed_right false y count i fits e (inr q) within =
    let here : min (count + i) 63 ≡ 63 = omega arith in
    let from : 2 ^ 63 ≤ y = ltb-false y (2 ^ 63) e in
    let rest : 2 ^ 64 - suc y < 2 ^ 64 = omega arith in
    negative_right y count i fits within ∙ ap (λ x. 1 - x) (bit_above (2 ^ 64 - suc y) 64 (count + i) rest q) ∙ sym (highest_set 63 y from fits) ∙ ap (bit y) (sym here)

arithmetic_moved : (count i : ℕ) → i < 64 → Moved (λ x. word_shift shift.ArithmeticRight x count) i
arithmetic_moved count i within =
    let at = count % 2 ^ 64 % 64 in
    let place : min (at + i) 63 < 64 = omega arith in
    taken (min (at + i) 63) (λ x.
    bit_of_low _ 64 i within
    ∙ signed_right (nat_lt (x % 2 ^ 64 % 2 ^ 64) (2 ^ 63)) (x % 2 ^ 64 % 2 ^ 64) at i (mod_below (x % 2 ^ 64) (2 ^ 64) (pow_pos 64)) refl (cases_lt (at + i) 64) within
    ∙ bit_of_low (x % 2 ^ 64) 64 (min (at + i) 63) place ∙ bit_of_low x 64 (min (at + i) 63) place)

pub shift_moved : (shift : Shift) (count i : ℕ) → i < 64 → Moved (λ x. word_shift shift x count) i
shift_moved shift.Left count i within = left_moved (count % 2 ^ 64 % 64) i within (cases_lt i (count % 2 ^ 64 % 64))
shift_moved shift.Right count i within = right_moved (count % 2 ^ 64 % 64) i (cases_lt (count % 2 ^ 64 % 64 + i) 64)
shift_moved shift.ArithmeticRight count i within = arithmetic_moved count i within

pub shift_contained : (shift : Shift) (a : Bits) (count n : ℕ) → KnownContains a n → KnownContains (known_shift shift a count) (word_shift shift n count)
shift_contained shift a count n h = moved_contained (λ x. word_shift shift x count) (λ x. shift_fits shift x count) (shift_moved shift count) a n h

-- sign extension, from the bit at place k
extended_bit : (test : Bool) (j k y i : ℕ) → j + suc k ≡ 64 → y < 2 ^ suc k → nat_lt y (2 ^ k) ≡ test → (i < suc k) ⊎ (suc k ≤ i) → i < 64
    → bit (word_of (cond test (pos y) (negsuc (2 ^ suc k - suc y)))) i ≡ bit y (min i k)
extended_bit true j k y i sum fits e (inl p) within =
    let here : min i k ≡ i = omega arith in
    ap (bit y) (sym here)
extended_bit true j k y i sum fits e (inr q) within =
    let here : min i k ≡ k = omega arith in
    let below : y < 2 ^ k = ltb-true y (2 ^ k) e in
    let at : k ≤ k = omega arith in
    bit_above y (suc k) i fits q ∙ sym (bit_above y k k below at) ∙ ap (bit y) (sym here)
extended_bit false j k y i sum fits e (inl p) within =
    let here : min i k ≡ i = omega arith in
    ap (λ x. bit x i) (extended_parts j k y sum fits) ∙ bit_of_pair_low (2 ^ j - 1) (suc k) y i p ∙ ap (bit y) (sym here)
extended_bit false j k y i sum fits e (inr q) within =
    let here : min i k ≡ k = omega arith in
    let from : 2 ^ k ≤ y = ltb-false y (2 ^ k) e in
    ap (λ x. bit x i) (extended_parts j k y sum fits) ∙ bit_of_pair_high (2 ^ j - 1) (suc k) y i fits q
    ∙ bit_is (2 ^ j - 1) (i - suc k) ∙ bit_at_ones j (i - suc k) (omega arith)
    ∙ sym (highest_set k y from fits) ∙ ap (bit y) (sym here)

extended_moved : (j k i : ℕ) → j + suc k ≡ 64 → i < 64 → Moved (λ x. sign_extended (suc k) x) i
extended_moved j k i sum within =
    let place : min i k < suc k = omega arith in
    let before : k ≡ suc k - 1 = omega arith in
    taken (min i k) (λ x.
    subst (λ w. bit (word_of (cond (nat_lt (x % 2 ^ suc k) (2 ^ w)) (pos (x % 2 ^ suc k)) (negsuc (2 ^ suc k - suc (x % 2 ^ suc k))))) i ≡ bit (x % 2 ^ suc k) (min i k))
    before
    (extended_bit (nat_lt (x % 2 ^ suc k) (2 ^ k)) j k (x % 2 ^ suc k) i sum (mod_below x (2 ^ suc k) (pow_pos (suc k))) refl (cases_lt i (suc k)) within)
    ∙ bit_of_low x (suc k) (min i k) place)

sign_moved : (size : Size) (i : ℕ) → i < 64 → Moved (λ x. sign_extended (bits_in size) x) i
sign_moved size.Byte i within = extended_moved 56 7 i refl within
sign_moved size.HalfWord i within = extended_moved 48 15 i refl within
sign_moved size.Word i within = extended_moved 32 31 i refl within
sign_moved size.DoubleWord i within = extended_moved 0 63 i refl within

low_moved : (count i : ℕ) → (i < count) ⊎ (count ≤ i) → Moved (λ x. low count x) i
low_moved count i (inl p) = taken i (λ x. bit_of_low x count i p)
low_moved count i (inr q) = cleared (λ x. bit_of_low_above x count i q)

-- a byte, and others above it
bytes_moved : (f g : ℕ → ℕ) → ((x : ℕ) → f x < 2 ^ 8) → ((i : ℕ) → i < 8 → Moved f i) → ((i : ℕ) → Moved g i) → (i : ℕ) → Moved (λ x. f x + 256 * g x) i
bytes_moved f g fits h k i = by (cases_lt i 8)
  where
    parts : (x : ℕ) → f x + 256 * g x ≡ g x * 2 ^ 8 + f x
    parts x = omega arith

    below : i < 8 → Moved f i → Moved (λ x. f x + 256 * g x) i
    below p (taken j e) = taken j (λ x. ap (λ y. bit y i) (parts x) ∙ bit_of_pair_low (g x) 8 (f x) i p ∙ e x)
    below p (cleared e) = cleared (λ x. ap (λ y. bit y i) (parts x) ∙ bit_of_pair_low (g x) 8 (f x) i p ∙ e x)

    above : 8 ≤ i → Moved g (i - 8) → Moved (λ x. f x + 256 * g x) i
    above q (taken j e) = taken j (λ x. ap (λ y. bit y i) (parts x) ∙ bit_of_pair_high (g x) 8 (f x) i (fits x) q ∙ e x)
    above q (cleared e) = cleared (λ x. ap (λ y. bit y i) (parts x) ∙ bit_of_pair_high (g x) 8 (f x) i (fits x) q ∙ e x)

    by : (i < 8) ⊎ (8 ≤ i) → Moved (λ x. f x + 256 * g x) i
    by (inl p) = below p (h i p)
    by (inr q) = above q (k (i - 8))

-- the byte at a place, and others above it
byte_moved : (at : ℕ) (g : ℕ → ℕ) → ((i : ℕ) → Moved g i) → (i : ℕ) → Moved (λ x. x / 2 ^ at % 2 ^ 8 + 256 * g x) i
byte_moved at g k i =
    bytes_moved (λ x. x / 2 ^ at % 2 ^ 8) g (λ x. mod_below (x / 2 ^ at) (2 ^ 8) (pow_pos 8))
    (λ j p. taken (at + j) (λ x. bit_of_low (x / 2 ^ at) 8 j p ∙ bit_of_right x at j)) k i

-- the lowest byte, with no others above it
last_moved : (i : ℕ) → Moved (λ x. x % 2 ^ 8 + 256 * 0) i
last_moved i = bytes_moved (λ x. x % 2 ^ 8) (λ x. 0) (λ x. mod_below x (2 ^ 8) (pow_pos 8)) (λ j p. taken j (λ x. bit_of_low x 8 j p)) (λ j. cleared (λ x. bit_above 0 0 j (omega arith) (omega arith))) i

swap_moved : (size : Size) (i : ℕ) → Moved (λ x. converted order.Swap size x) i
swap_moved size.Byte i = last_moved i
swap_moved size.HalfWord i = byte_moved 8 _ last_moved i
swap_moved size.Word i = byte_moved 24 _ (byte_moved 16 _ (byte_moved 8 _ last_moved)) i
swap_moved size.DoubleWord i =
    byte_moved 56 _ (byte_moved 48 _ (byte_moved 40 _ (byte_moved 32 _ (byte_moved 24 _ (byte_moved 16 _ (byte_moved 8 _ last_moved)))))) i

pub conversion_moved : (conversion : Conversion) (size : Size) (i : ℕ) → i < 64 → Moved (λ x. word_conversion conversion size x) i
conversion_moved conversion.Low size i within = low_moved (bits_in size) i (cases_lt i (bits_in size))
conversion_moved conversion.SignExtended size i within = sign_moved size i within
conversion_moved conversion.Swapped size i within = swap_moved size i

pub conversion_contained : (conversion : Conversion) (size : Size) (a : Bits) (n : ℕ) → KnownContains a n → KnownContains (known_conversion conversion size a) (word_conversion conversion size n)
conversion_contained conversion size a n h =
    moved_contained (λ x. word_conversion conversion size x) (λ x. conversion_fits conversion size x) (conversion_moved conversion size) a n h
