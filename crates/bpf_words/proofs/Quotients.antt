-- The bits of signed quotients: only the least number by -1 has no signed reading of its own.
use Rattle.std.proofs.Common.{◌≡◌, ◌<◌, ◌≤◌, ◌^◌, ℕ, zero, suc, ◌/◌, ℤ, pos, negsuc, neg_ℤ, FitsSigned, to_z, of_z, w32, w64, sym, ap, ◌∙◌, arith}
use Rattle.std.specs.Prelude.{Bool, false, if◌then◌else◌, ◌==◌, unsigned_abs, int_div}
use Rattle.std.specs.Int.{int_wrapping_div}
use Rattle.std.proofs.lemmas.Int.{of_z-to_z, to_z-of_z}
use Rattle.bpf_profile.specs.Words.{low, signed, word_of, signed_quotient}
use native.Mathlib.Nat.{div-le_self, mod-eq_of_lt}

-- an integer of at most this size
abbrev Within : ℕ → ℤ → Type 0
Within bound q = unsigned_abs q ≤ bound

negated : (n bound : ℕ) → n ≤ bound → Within bound (neg_ℤ (pos n))
negated zero bound h = h
negated (suc n) bound h = h

quotient_within : (bound : ℕ) (a b : ℤ) → Within bound a → Within bound (int_div a b)
quotient_within bound (pos a) (pos b) h = omega (arith, div-le_self a b)
quotient_within bound (pos a) (negsuc b) h = negated (a / suc b) bound (omega (arith, div-le_self a (suc b)))
quotient_within bound (negsuc a) (pos b) h = negated (suc a / b) bound (omega (arith, div-le_self (suc a) b))
quotient_within bound (negsuc a) (negsuc b) h = omega (arith, div-le_self (suc a) (suc b))

bits64 : (q : ℤ) → Within (2 ^ 63) q → (of_z w64 q < 2 ^ 64) × (of_z w64 q ≡ low 64 (word_of q))
bits64 (pos n) h = (omega arith, sym (mod-eq_of_lt (omega arith)))
bits64 (negsuc n) h = (omega arith, sym (mod-eq_of_lt (omega arith)))

bits32 : (q : ℤ) → Within (2 ^ 31) q → (of_z w32 q < 2 ^ 32) × (of_z w32 q ≡ low 32 (word_of q))
bits32 (pos n) h = (omega arith, omega arith)
bits32 (negsuc n) h = (omega arith, omega arith)

within64 : (a : ℤ) → FitsSigned w64 a → Within (2 ^ 63) a
within64 (pos n) f = omega (arith, f.sfits)
within64 (negsuc n) f = omega (arith, f.sfits)

within32 : (a : ℤ) → FitsSigned w32 a → Within (2 ^ 31) a
within32 (pos n) f = omega (arith, f.sfits)
within32 (negsuc n) f = omega (arith, f.sfits)

signed64 : (a : ℕ) → a < 2 ^ 64 → to_z w64 a ≡ signed 64 a
signed64 a h = rw (mod-eq_of_lt h)

quotient_bits64 : (a b : ℤ) → FitsSigned w64 a → of_z w64 (to_z w64 (of_z w64 (int_div a b))) ≡ low 64 (word_of (int_div a b))
quotient_bits64 a b f =
    let both = bits64 (int_div a b) (quotient_within (2 ^ 63) a b (within64 a f)) in
    of_z-to_z w64 (of_z w64 (int_div a b)) both.0 ∙ both.1

other : (t : Bool) (m n : ℕ) → t ≡ false → (if t then m else n) ≡ n
other t m n e = ap (λ (test : Bool). if test then m else n) e

-- what the code computes: x and y are the signed readings, q is their quotient as a signed number, and r its bits
pub quotient64 : (a b r : ℕ) (x y q : ℤ) → a < 2 ^ 64 → b < 2 ^ 64 → (b == 0) ≡ false → FitsSigned w64 x → FitsSigned w64 y → FitsSigned w64 q
    → x ≡ to_z w64 a → y ≡ to_z w64 b → q ≡ int_wrapping_div w64 (to_z w64 (of_z w64 x)) (to_z w64 (of_z w64 y)) → r ≡ of_z w64 (to_z w64 (of_z w64 q)) → r ≡ signed_quotient 64 a b
quotient64 a b r x y q h k some fx fy fq ex ey eq er =
    let sx : x ≡ signed 64 a = ex ∙ signed64 a h in
    let sy : y ≡ signed 64 b = ey ∙ signed64 b k in
    let divided = ap (λ (z : ℤ). int_wrapping_div w64 z (to_z w64 (of_z w64 y))) (to_z-of_z w64 x fx) ∙ ap (int_wrapping_div w64 x) (to_z-of_z w64 y fy) in
    let read = ap (λ (z : ℤ). low 64 (word_of (int_div z y))) sx ∙ ap (λ (z : ℤ). low 64 (word_of (int_div (signed 64 a) z))) sy in
    er ∙ ap (of_z w64) (to_z-of_z w64 q fq ∙ eq ∙ divided) ∙ quotient_bits64 x y fx ∙ read ∙ sym (other (b == 0) 0 _ some)

signed32 : (a : ℕ) → a < 2 ^ 32 → to_z w32 a ≡ signed 32 a
signed32 a h = rw (mod-eq_of_lt h)

quotient_bits32 : (a b : ℤ) → FitsSigned w32 a → of_z w32 (to_z w32 (of_z w32 (int_div a b))) ≡ low 32 (word_of (int_div a b))
quotient_bits32 a b f =
    let both = bits32 (int_div a b) (quotient_within (2 ^ 31) a b (within32 a f)) in
    of_z-to_z w32 (of_z w32 (int_div a b)) both.0 ∙ both.1

pub quotient32 : (a b r : ℕ) (x y q : ℤ) → a < 2 ^ 32 → b < 2 ^ 32 → (b == 0) ≡ false → FitsSigned w32 x → FitsSigned w32 y → FitsSigned w32 q
    → x ≡ to_z w32 a → y ≡ to_z w32 b → q ≡ int_wrapping_div w32 (to_z w32 (of_z w32 x)) (to_z w32 (of_z w32 y)) → r ≡ of_z w32 (to_z w32 (of_z w32 q)) → r ≡ signed_quotient 32 a b
quotient32 a b r x y q h k some fx fy fq ex ey eq er =
    let sx : x ≡ signed 32 a = ex ∙ signed32 a h in
    let sy : y ≡ signed 32 b = ey ∙ signed32 b k in
    let divided = ap (λ (z : ℤ). int_wrapping_div w32 z (to_z w32 (of_z w32 y))) (to_z-of_z w32 x fx) ∙ ap (int_wrapping_div w32 x) (to_z-of_z w32 y fy) in
    let read = ap (λ (z : ℤ). low 32 (word_of (int_div z y))) sx ∙ ap (λ (z : ℤ). low 32 (word_of (int_div (signed 32 a) z))) sy in
    er ∙ ap (of_z w32) (to_z-of_z w32 q fq ∙ eq ∙ divided) ∙ quotient_bits32 x y fx ∙ read ∙ sym (other (b == 0) 0 _ some)
