-- Quotients, products and signed readings of words, as far as the laws of ranges need them.
use Rattle.std.proofs.Common.{◌≡◌, ℕ, ℤ, suc, pos, negsuc, ◌-◌, ◌/◌, ◌^◌, ◌<◌, ◌≤◌, cond, arith, sym, ap, ◌∙◌, subst}
use Rattle.std.proofs.Math.Nat.{mod-eq_of_lt, div-mul-le_self, pow-le-pow_right}
use Rattle.std.proofs.lemmas.Bool.{lt-ltb, le-ltb}
use Rattle.std.proofs.lemmas.Nat.{mul-le, le-div}
use Rattle.std.specs.Prelude.{nat_lt}
use Rattle.bpf_profile.specs.Words.{IsWord, low, signed, operation_at}
use Rattle.abs_domain.specs.Operations.{binary_operation, word_operation}
use Rattle.abs_domain.specs.declared.operations.Binary.{Binary}

-- a quotient grows with its dividend, and falls with its divisor
pub quotient_grows : (n m k l : ℕ) → n ≤ m → 0 < l → l ≤ k → n / k ≤ m / l
quotient_grows n m k l p q r = le-div (n / k) m l q (omega (arith, mul-le (n / k) l (n / k) k (omega arith) r, div-mul-le_self n k))

pub pow_grows : (i j : ℕ) → i ≤ j → 2 ^ i ≤ 2 ^ j
pow_grows i j p = pow-le-pow_right {n = 2} (omega arith) {i = i} {j = j} p

-- a word is its own low bits
pub word_is : (n : ℕ) → IsWord n → low 64 n ≡ n
word_is n h = mod-eq_of_lt h

-- an operation takes words as they are
pub operation_is : (operation : Binary) (n m : ℕ) → IsWord n → IsWord m → word_operation operation n m ≡ operation_at (binary_operation operation) 64 n m
operation_is operation n m h k =
    ap (λ x. operation_at (binary_operation operation) 64 x (low 64 m)) (word_is n h) ∙ ap (operation_at (binary_operation operation) 64 n) (word_is m k)

small_by : (r n : ℕ) → r ≡ n → n < 2 ^ 63 → ◌≡◌ {A = ℤ} (cond (nat_lt r (2 ^ 63)) (pos r) (negsuc (2 ^ 64 - suc r))) (pos n)
small_by r n e h = subst (λ x. ◌≡◌ {A = ℤ} (cond (nat_lt x (2 ^ 63)) (pos x) (negsuc (2 ^ 64 - suc x))) (pos n)) (sym e) (ap (λ t. cond t (pos n) (negsuc (2 ^ 64 - suc n))) (lt-ltb n (2 ^ 63) h))

-- a word below 2^63 is its own signed reading
pub signed_small : (n : ℕ) → n < 2 ^ 63 → signed 64 n ≡ pos n
signed_small n h = small_by (low 64 n) n (word_is n (omega arith)) h

large_by : (r n : ℕ) → r ≡ n → 2 ^ 63 ≤ n → ◌≡◌ {A = ℤ} (cond (nat_lt r (2 ^ 63)) (pos r) (negsuc (2 ^ 64 - suc r))) (negsuc (2 ^ 64 - suc n))
large_by r n e h = subst (λ x. ◌≡◌ {A = ℤ} (cond (nat_lt x (2 ^ 63)) (pos x) (negsuc (2 ^ 64 - suc x))) (negsuc (2 ^ 64 - suc n))) (sym e) (ap (λ t. cond t (pos n) (negsuc (2 ^ 64 - suc n))) (le-ltb n (2 ^ 63) h))

-- a word from 2^63 on stands for itself less 2^64
pub signed_large : (n : ℕ) → IsWord n → 2 ^ 63 ≤ n → signed 64 n ≡ negsuc (2 ^ 64 - suc n)
signed_large n h k = large_by (low 64 n) n (word_is n h) k
