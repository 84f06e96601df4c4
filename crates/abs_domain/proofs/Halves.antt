-- What operations on 64 bits make of halves.
use Rattle.std.proofs.Common.{◌≡◌, ℕ, ◌+◌, ◌-◌, ◌*◌, ◌%◌, ◌^◌, ◌<◌, arith, ◌∙◌}
use Rattle.std.proofs.Math.Nat.{mod-eq_of_lt}
use Rattle.std.proofs.lemmas.Nat.{pow_pos, mod_below}
use lib.Pow.{mod-mod-pow}
use Rattle.bpf_profile.proofs.Results.{arithmetic_fits}
use Rattle.bpf_profile.specs.Words.{low, arithmetic, operation_at, quotient, remainder}
use Rattle.bpf_profile.specs.declared.instruction.Operation.TheVariants as operation
use Rattle.bpf_profile.specs.declared.instruction.Width.TheVariants as width

pub half_small : (n : ℕ) → low 32 n < 2 ^ 32
half_small n = mod_below n (2 ^ 32) (pow_pos 32)

pub half_wide : (n : ℕ) → low 64 (low 32 n) ≡ low 32 n
half_wide n = mod-eq_of_lt (let h = half_small n in omega arith)

pub half_half : (n : ℕ) → low 32 (low 32 n) ≡ low 32 n
half_half n = mod-eq_of_lt (half_small n)

-- the low half of the low 64 bits
pub half_of_low : (n : ℕ) → low 32 (low 64 n) ≡ low 32 n
half_of_low n = mod-mod-pow n 32 32

difference : (x y : ℕ) → y < 2 ^ 32 → (x + (2 ^ 64 - y)) % 2 ^ 32 ≡ (x + (2 ^ 32 - y)) % 2 ^ 32
difference x y h = omega (arith, h)

-- an operation on the low halves, of which the low half is taken
pub half_sum : (n m : ℕ) → low 32 (arithmetic operation.Add width.Bits64 (low 32 n) (low 32 m)) ≡ arithmetic operation.Add width.Bits32 n m
half_sum n m = half_of_low (low 64 (low 32 n) + low 64 (low 32 m)) ∙ (λ i. low 32 (half_wide n i + half_wide m i))

pub half_difference : (n m : ℕ) → low 32 (arithmetic operation.Subtract width.Bits64 (low 32 n) (low 32 m)) ≡ arithmetic operation.Subtract width.Bits32 n m
half_difference n m = half_of_low (low 64 (low 32 n) + (2 ^ 64 - low 64 (low 32 m))) ∙ (λ i. low 32 (half_wide n i + (2 ^ 64 - half_wide m i))) ∙ difference (low 32 n) (low 32 m) (half_small m)

pub half_product : (n m : ℕ) → low 32 (arithmetic operation.Multiply width.Bits64 (low 32 n) (low 32 m)) ≡ arithmetic operation.Multiply width.Bits32 n m
half_product n m = half_of_low (low 64 (low 32 n) * low 64 (low 32 m)) ∙ (λ i. low 32 (half_wide n i * half_wide m i))

pub half_quotient : (n m : ℕ) → low 32 (arithmetic operation.Divide width.Bits64 (low 32 n) (low 32 m)) ≡ arithmetic operation.Divide width.Bits32 n m
half_quotient n m = (λ i. low 32 (quotient (half_wide n i) (half_wide m i))) ∙ mod-eq_of_lt (arithmetic_fits operation.Divide width.Bits32 n m)

pub half_remainder : (n m : ℕ) → low 32 (arithmetic operation.Modulo width.Bits64 (low 32 n) (low 32 m)) ≡ arithmetic operation.Modulo width.Bits32 n m
half_remainder n m = (λ i. low 32 (remainder (half_wide n i) (half_wide m i))) ∙ mod-eq_of_lt (arithmetic_fits operation.Modulo width.Bits32 n m)

pub half_and : (n m : ℕ) → low 32 (arithmetic operation.And width.Bits64 (low 32 n) (low 32 m)) ≡ arithmetic operation.And width.Bits32 n m
half_and n m = (λ i. low 32 (operation_at operation.And 64 (half_wide n i) (half_wide m i))) ∙ mod-eq_of_lt (arithmetic_fits operation.And width.Bits32 n m)

pub half_or : (n m : ℕ) → low 32 (arithmetic operation.Or width.Bits64 (low 32 n) (low 32 m)) ≡ arithmetic operation.Or width.Bits32 n m
half_or n m = (λ i. low 32 (operation_at operation.Or 64 (half_wide n i) (half_wide m i))) ∙ mod-eq_of_lt (arithmetic_fits operation.Or width.Bits32 n m)

pub half_xor : (n m : ℕ) → low 32 (arithmetic operation.Xor width.Bits64 (low 32 n) (low 32 m)) ≡ arithmetic operation.Xor width.Bits32 n m
half_xor n m = (λ i. low 32 (operation_at operation.Xor 64 (half_wide n i) (half_wide m i))) ∙ mod-eq_of_lt (arithmetic_fits operation.Xor width.Bits32 n m)
