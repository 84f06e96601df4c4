-- No bit is both known to be 1 and unknown.
use Rattle.std.proofs.Common.{◌≡◌, ℕ, ◌-◌, ◌%◌, ◌^◌, ◌<◌, ◌≤◌, min, max, ◌⊎◌, inl, inr, sym, ap, ◌∙◌, arith}
use Rattle.std.specs.Prelude.{bit_and, bit_or}
use Rattle.std.proofs.lemmas.Bool.{cases_lt}
use Rattle.known_bits.specs.BitLaws.{bit, bit_small, bit_above, bit_of_and, bit_of_or, bit_of_without, bit_of_low_above, bit_of_mask_below, same_bits}
use Rattle.known_bits.specs.KnownBitsTable.{without}

zero_bit : (i : ℕ) → bit 0 i ≡ 0
zero_bit i = bit_above 0 0 i (omega arith) (omega arith)

taken_off : (x y : ℕ) → x < 2 → y < 2 → min (x - y) y ≡ 0
taken_off x y p q = omega arith

left_over : (x y : ℕ) → x < 2 → y < 2 → min y (x - y) ≡ 0
left_over x y p q = omega arith

pub without_apart : (a b : ℕ) → bit_and (without a b) b ≡ 0
without_apart a b = same_bits (bit_and (without a b) b) 0 (λ i. simp (bit_of_and, bit_of_without) (taken_off _ _ (bit_small a i) (bit_small b i) ∙ sym (zero_bit i)))

pub apart_without : (a b : ℕ) → bit_and b (without a b) ≡ 0
apart_without a b = same_bits (bit_and b (without a b)) 0 (λ i. simp (bit_of_and, bit_of_without) (left_over _ _ (bit_small a i) (bit_small b i) ∙ sym (zero_bit i)))

-- at each place
apart_at : (v u : ℕ) → bit_and v u ≡ 0 → (i : ℕ) → min (bit v i) (bit u i) ≡ 0
apart_at v u e i = sym (bit_of_and v u i) ∙ ap (λ x. bit x i) e ∙ zero_bit i

both_at : (v u w t : ℕ) → min v u ≡ 0 → min w t ≡ 0 → min (max v w) (min u t) ≡ 0
both_at v u w t e f = omega arith

pub both_apart : (v u w t : ℕ) → bit_and v u ≡ 0 → bit_and w t ≡ 0 → bit_and (bit_or v w) (bit_and u t) ≡ 0
both_apart v u w t e f =
    same_bits (bit_and (bit_or v w) (bit_and u t)) 0 (λ i. simp (bit_of_and, bit_of_or) (both_at _ _ _ _ (apart_at v u e i) (apart_at w t f i) ∙ sym (zero_bit i)))

less_at : (v u w : ℕ) → min v u ≡ 0 → min v (u - w) ≡ 0
less_at v u w e = omega arith

pub less_apart : (v u w : ℕ) → bit_and v u ≡ 0 → bit_and v (without u w) ≡ 0
less_apart v u w e =
    same_bits (bit_and v (without u w)) 0 (λ i. simp (bit_of_and, bit_of_without) (less_at _ _ _ (apart_at v u e i) ∙ sym (zero_bit i)))

fixed_at : (v u w t : ℕ) → w < 2 → t < 2 → min v u ≡ 0 → min (max (min v t) (w - t)) (min u t) ≡ 0
fixed_at v u w t p q e = omega arith

pub fixed_apart : (v u w t : ℕ) → bit_and v u ≡ 0 → bit_and (bit_or (bit_and v t) (without w t)) (bit_and u t) ≡ 0
fixed_apart v u w t e =
    same_bits (bit_and (bit_or (bit_and v t) (without w t)) (bit_and u t)) 0
    (λ i. simp (bit_of_and, bit_of_or, bit_of_without) (fixed_at _ _ _ _ (bit_small w i) (bit_small t i) (apart_at v u e i) ∙ sym (zero_bit i)))

pub low_apart : (n count : ℕ) → bit_and (n % 2 ^ count) (2 ^ 64 - 2 ^ count) ≡ 0
low_apart n count = same_bits (bit_and (n % 2 ^ count) (2 ^ 64 - 2 ^ count)) 0 (λ i. bit_of_and (n % 2 ^ count) (2 ^ 64 - 2 ^ count) i ∙ at i (cases_lt i count) ∙ sym (zero_bit i))
  where
    first : (x y : ℕ) → x ≡ 0 → min x y ≡ 0
    first x y e = omega arith

    second : (x y : ℕ) → y ≡ 0 → min x y ≡ 0
    second x y e = omega arith

    at : (i : ℕ) → (i < count) ⊎ (count ≤ i) → min (bit (n % 2 ^ count) i) (bit (2 ^ 64 - 2 ^ count) i) ≡ 0
    at i (inl p) = second _ _ (bit_of_mask_below count i p)
    at i (inr q) = first _ _ (bit_of_low_above n count i q)
