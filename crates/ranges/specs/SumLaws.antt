-- Sums, differences, products, quotients and remainders of contained words are contained.
use Rattle.std.proofs.Common.{◌≡◌, ℕ, ℤ, pos, ◌+◌, ◌-◌, ◌*◌, ◌/◌, ◌%◌, ◌^◌, ◌<◌, ◌≤◌, ◌==◌, min, true, false, cond, arith, sym, ap, ◌∙◌, subst}
use Rattle.std.proofs.Math.Nat.{mod-eq_of_lt, div-le_self, mod-le}
use Rattle.std.proofs.lemmas.Bool.{ltb-true, leb-true, ne_eqb, cond-false, cond_both, and_parts}
use Rattle.std.proofs.lemmas.Nat.{mul-le, mod_below, pow_pos}
use Rattle.std.specs.Prelude.{nat_lt, nat_le, int_div, int_rem}
use Rattle.bpf_profile.specs.Words.{IsWord, low, signed, word_of, quotient, remainder, signed_quotient, signed_remainder}
use Rattle.abs_domain.specs.declared.operations.Bounds.{Bounds}
use Rattle.ranges.specs.NumberLaws.{quotient_grows, word_is, signed_small}
use Rattle.ranges.specs.RangeTable.{RangeContains, between, range_any, range_sum, range_difference, range_product, range_quotient, range_remainder, have_no_sign, range_signed_quotient, range_signed_remainder}

-- every word is one of any
pub is_any : (n : ℕ) → IsWord n → RangeContains range_any n
is_any n h = (h, omega arith, omega arith)

word_below : (n : ℕ) → IsWord (n % 2 ^ 64)
word_below n = mod_below n (2 ^ 64) (pow_pos 64)

-- ---- sums

sum_whole : (al ah bl bh n m : ℕ) → ah + bh < 2 ^ 64 → al ≤ n → n ≤ ah → bl ≤ m → m ≤ bh → RangeContains (between (al + bl) (ah + bh)) ((n + m) % 2 ^ 64)
sum_whole al ah bl bh n m small p q r s =
    let e : (n + m) % 2 ^ 64 ≡ n + m = mod-eq_of_lt (omega arith) in
    (word_below (n + m), omega arith, omega arith)

sum_wrapped : (al ah bl bh n m : ℕ) → 2 ^ 64 ≤ al + bl → IsWord n → IsWord m → al ≤ n → n ≤ ah → bl ≤ m → m ≤ bh → RangeContains (between (al + bl - 2 ^ 64) (ah + bh - 2 ^ 64)) ((n + m) % 2 ^ 64)
sum_wrapped al ah bl bh n m large h k p q r s =
    let e : (n + m) % 2 ^ 64 ≡ n + m - 2 ^ 64 = omega arith in
    (word_below (n + m), omega arith, omega arith)

pub sum_kept : (a b : Bounds) (n m : ℕ) → RangeContains a n → RangeContains b m → RangeContains (range_sum a b) (low 64 (n + m))
sum_kept a b n m h k =
    let P : Bounds → Type 0 = λ r. RangeContains r ((n + m) % 2 ^ 64) in
    cond_both (nat_lt (a.high + b.high) (2 ^ 64)) _ _ P
    (λ e. sum_whole a.low a.high b.low b.high n m (ltb-true _ _ e) h.1 h.2 k.1 k.2)
    (λ e. cond_both (nat_le (2 ^ 64) (a.low + b.low)) _ _ P
    (λ f. sum_wrapped a.low a.high b.low b.high n m (leb-true _ _ f) h.0 k.0 h.1 h.2 k.1 k.2)
    (λ f. is_any _ (word_below (n + m))))

-- ---- differences

difference_whole : (al ah bl bh n m : ℕ) → bh ≤ al → IsWord n → IsWord m → al ≤ n → n ≤ ah → bl ≤ m → m ≤ bh → RangeContains (between (al - bh) (ah - bl)) ((n + (2 ^ 64 - m)) % 2 ^ 64)
difference_whole al ah bl bh n m small h k p q r s =
    let e : (n + (2 ^ 64 - m)) % 2 ^ 64 ≡ n - m = omega arith in
    (word_below (n + (2 ^ 64 - m)), omega arith, omega arith)

difference_wrapped : (al ah bl bh n m : ℕ) → ah < bl → IsWord n → IsWord m → al ≤ n → n ≤ ah → bl ≤ m → m ≤ bh → RangeContains (between (al + 2 ^ 64 - bh) (ah + 2 ^ 64 - bl)) ((n + (2 ^ 64 - m)) % 2 ^ 64)
difference_wrapped al ah bl bh n m large h k p q r s =
    let e : (n + (2 ^ 64 - m)) % 2 ^ 64 ≡ n + (2 ^ 64 - m) = mod-eq_of_lt (omega arith) in
    (word_below (n + (2 ^ 64 - m)), omega arith, omega arith)

pub difference_kept : (a b : Bounds) (n m : ℕ) → RangeContains a n → RangeContains b m → RangeContains (range_difference a b) (low 64 (n + (2 ^ 64 - m)))
difference_kept a b n m h k =
    let P : Bounds → Type 0 = λ r. RangeContains r ((n + (2 ^ 64 - m)) % 2 ^ 64) in
    cond_both (nat_le b.high a.low) _ _ P
    (λ e. difference_whole a.low a.high b.low b.high n m (leb-true _ _ e) h.0 k.0 h.1 h.2 k.1 k.2)
    (λ e. cond_both (nat_lt a.high b.low) _ _ P
    (λ f. difference_wrapped a.low a.high b.low b.high n m (ltb-true _ _ f) h.0 k.0 h.1 h.2 k.1 k.2)
    (λ f. is_any _ (word_below (n + (2 ^ 64 - m)))))

-- ---- products

product_whole : (al ah bl bh n m : ℕ) → ah * bh < 2 ^ 64 → al ≤ n → n ≤ ah → bl ≤ m → m ≤ bh → RangeContains (between (al * bl) (ah * bh)) ((n * m) % 2 ^ 64)
product_whole al ah bl bh n m small p q r s =
    let greater = mul-le n m ah bh q s in
    let lesser = mul-le al bl n m p r in
    let e : (n * m) % 2 ^ 64 ≡ n * m = mod-eq_of_lt (omega arith) in
    (word_below (n * m), rw e lesser, rw e greater)

pub product_kept : (a b : Bounds) (n m : ℕ) → RangeContains a n → RangeContains b m → RangeContains (range_product a b) (low 64 (n * m))
product_kept a b n m h k =
    cond_both (nat_lt (a.high * b.high) (2 ^ 64)) _ _ (λ r. RangeContains r ((n * m) % 2 ^ 64))
    (λ e. product_whole a.low a.high b.low b.high n m (ltb-true _ _ e) h.1 h.2 k.1 k.2)
    (λ e. is_any _ (word_below (n * m)))

-- ---- quotients

quotient_some : (al ah bl bh n m : ℕ) → 1 ≤ bl → IsWord n → al ≤ n → n ≤ ah → bl ≤ m → m ≤ bh → RangeContains (between (al / bh) (ah / bl)) (n / m)
quotient_some al ah bl bh n m some h p q r s =
    (omega (arith, div-le_self n m), quotient_grows al n bh m p (omega arith) s, quotient_grows n ah m bl q some r)

not_zero : (m : ℕ) → 0 < m → (m == 0) ≡ false
not_zero m h = ne_eqb m 0 (λ e. absurd (omega (arith, e)))

quotient_by : (m : ℕ) → 0 < m → (n : ℕ) → quotient n m ≡ n / m
quotient_by m some n = cond-false (m == 0) 0 (n / m) (not_zero m some)

-- a quotient is at most the dividend, also by 0
quotient_at_most : (n m : ℕ) → quotient n m ≤ n
quotient_at_most n m = cond_both (m == 0) 0 (n / m) (λ x. x ≤ n) (λ e. omega arith) (λ e. div-le_self n m)

pub quotient_kept : (a b : Bounds) (n m : ℕ) → RangeContains a n → RangeContains b m → RangeContains (range_quotient a b) (quotient n m)
quotient_kept a b n m h k =
    cond_both (nat_le 1 b.low) _ _ (λ r. RangeContains r (quotient n m))
    (λ e. subst (RangeContains (between (a.low / b.high) (a.high / b.low))) (sym (quotient_by m (omega (arith, leb-true _ _ e, k.1)) n)) (quotient_some a.low a.high b.low b.high n m (leb-true _ _ e) h.0 h.1 h.2 k.1 k.2))
    (λ e. let l = quotient_at_most n m in let ends = h in (omega (arith, l, h.0), omega arith, omega (arith, l, h.2)))

-- ---- remainders

remainder_by : (m : ℕ) → 0 < m → (n : ℕ) → remainder n m ≡ n % m
remainder_by m some n = cond-false (m == 0) n (n % m) (not_zero m some)

remainder_some : (ah bh n m : ℕ) → 0 < m → IsWord n → n ≤ ah → m ≤ bh → RangeContains (between 0 (min ah (bh - 1))) (n % m)
remainder_some ah bh n m some h p q =
    let l = mod-le n m in
    let f = mod_below n m some in
    (omega arith, omega arith, omega arith)

-- a remainder is at most the dividend, also by 0
remainder_at_most : (n m : ℕ) → remainder n m ≤ n
remainder_at_most n m = cond_both (m == 0) n (n % m) (λ x. x ≤ n) (λ e. omega arith) (λ e. mod-le n m)

pub remainder_kept : (a b : Bounds) (n m : ℕ) → RangeContains a n → RangeContains b m → RangeContains (range_remainder a b) (remainder n m)
remainder_kept a b n m h k =
    cond_both (nat_le 1 b.low) _ _ (λ r. RangeContains r (remainder n m))
    (λ e. subst (RangeContains (between 0 (min a.high (b.high - 1)))) (sym (remainder_by m (omega (arith, leb-true _ _ e, k.1)) n)) (remainder_some a.high b.high n m (omega (arith, leb-true _ _ e, k.1)) h.0 h.2 k.2))
    (λ e. let l = remainder_at_most n m in (omega (arith, l, h.0), omega arith, omega (arith, l, h.2)))

-- ---- signed quotients and remainders

signed_quotient_by : (x y : ℤ) (n m : ℕ) → x ≡ pos n → y ≡ pos m → IsWord n → cond (m == 0) 0 (low 64 (word_of (int_div x y))) ≡ quotient n m
signed_quotient_by x y n m p q h =
    let read = ap (λ (z : ℤ). low 64 (word_of (int_div z y))) p ∙ ap (λ (z : ℤ). low 64 (word_of (int_div (pos n) z))) q ∙ word_is (n / m) (omega (arith, div-le_self n m)) in
    ap (λ r. cond (m == 0) 0 r) read

signed_remainder_by : (x y : ℤ) (n m : ℕ) → x ≡ pos n → y ≡ pos m → IsWord n → cond (m == 0) n (low 64 (word_of (int_rem x y))) ≡ remainder n m
signed_remainder_by x y n m p q h =
    let read = ap (λ (z : ℤ). low 64 (word_of (int_rem z y))) p ∙ ap (λ (z : ℤ). low 64 (word_of (int_rem (pos n) z))) q ∙ word_is (n % m) (omega (arith, mod-le n m)) in
    ap (λ r. cond (m == 0) n r) read

-- words below 2^63 are divided as they are without a sign
signed_quotient_is : (n m : ℕ) → n < 2 ^ 63 → m < 2 ^ 63 → signed_quotient 64 n m ≡ quotient n m
signed_quotient_is n m h k = signed_quotient_by (signed 64 n) (signed 64 m) n m (signed_small n h) (signed_small m k) (omega arith)

signed_remainder_is : (n m : ℕ) → n < 2 ^ 63 → m < 2 ^ 63 → signed_remainder 64 n m ≡ remainder n m
signed_remainder_is n m h k = signed_remainder_by (signed 64 n) (signed 64 m) n m (signed_small n h) (signed_small m k) (omega arith)

below_both : (a b : Bounds) (n m : ℕ) → RangeContains a n → RangeContains b m → have_no_sign a b ≡ true → (n < 2 ^ 63) × (m < 2 ^ 63)
below_both a b n m h k e =
    let both = and_parts (nat_lt a.high (2 ^ 63)) (nat_lt b.high (2 ^ 63)) e in
    (omega (arith, ltb-true _ _ both.0, h.2), omega (arith, ltb-true _ _ both.1, k.2))

pub signed_quotient_kept : (a b : Bounds) (n m : ℕ) → IsWord (signed_quotient 64 n m) → RangeContains a n → RangeContains b m → RangeContains (range_signed_quotient a b) (signed_quotient 64 n m)
signed_quotient_kept a b n m fits h k =
    cond_both (have_no_sign a b) _ _ (λ r. RangeContains r (signed_quotient 64 n m))
    (λ e. let small = below_both a b n m h k e in subst (RangeContains (range_quotient a b)) (sym (signed_quotient_is n m small.0 small.1)) (quotient_kept a b n m h k))
    (λ e. is_any _ fits)

pub signed_remainder_kept : (a b : Bounds) (n m : ℕ) → IsWord (signed_remainder 64 n m) → RangeContains a n → RangeContains b m → RangeContains (range_signed_remainder a b) (signed_remainder 64 n m)
signed_remainder_kept a b n m fits h k =
    cond_both (have_no_sign a b) _ _ (λ r. RangeContains r (signed_remainder 64 n m))
    (λ e. let small = below_both a b n m h k e in subst (RangeContains (range_remainder a b)) (sym (signed_remainder_is n m small.0 small.1)) (remainder_kept a b n m h k))
    (λ e. is_any _ fits)
