-- The results of operations fit in their bits.
use Rattle.std.proofs.Common.{ℕ, ◌/◌, ◌%◌, ◌^◌, ◌<◌, ◌==◌, Bool, true, false, cond, arith}
use Rattle.std.proofs.Math.Nat.{div-le_self, mod-le}
use Rattle.std.proofs.lemmas.Nat.{pow_pos, mod_below, shr_le, and_le_l, or_lt, xor_lt}
use Rattle.bpf_profile.specs.declared.instruction.Operation.{Operation}
use Rattle.bpf_profile.specs.declared.instruction.Operation.TheVariants as operation
use Rattle.bpf_profile.specs.declared.instruction.Width.{Width}
use Rattle.bpf_profile.specs.Words.{low, bits_of, operation_at, arithmetic}

pub low_fits : (bits n : ℕ) → low bits n < 2 ^ bits
low_fits bits n = mod_below n (2 ^ bits) (pow_pos bits)

either_fits : (test : Bool) (a b c : ℕ) → a < c → b < c → cond test a b < c
either_fits true a b c p q = p
either_fits false a b c p q = q

operation_fits : (operation : Operation) (bits a b : ℕ) → a < 2 ^ bits → b < 2 ^ bits → operation_at operation bits a b < 2 ^ bits
operation_fits operation.Add bits a b p q = low_fits bits _
operation_fits operation.Subtract bits a b p q = low_fits bits _
operation_fits operation.Multiply bits a b p q = low_fits bits _
operation_fits operation.Divide bits a b p q = either_fits (b == 0) 0 (a / b) _ (pow_pos bits) (let h = div-le_self a b in omega arith)
operation_fits operation.SignedDivide bits a b p q = either_fits (b == 0) _ _ _ (pow_pos bits) (low_fits bits _)
operation_fits operation.Or bits a b p q = or_lt bits a b p q
operation_fits operation.And bits a b p q = let h = and_le_l a b in omega arith
operation_fits operation.ShiftLeft bits a b p q = low_fits bits _
operation_fits operation.ShiftRight bits a b p q = let h = shr_le a (b % bits) in omega arith
operation_fits operation.Modulo bits a b p q = either_fits (b == 0) a (a % b) _ p (let h = mod-le a b in omega arith)
operation_fits operation.SignedModulo bits a b p q = either_fits (b == 0) a _ _ p (low_fits bits _)
operation_fits operation.Xor bits a b p q = xor_lt bits a b p q
operation_fits operation.Move bits a b p q = q
operation_fits operation.ArithmeticShiftRight bits a b p q = low_fits bits _

pub arithmetic_fits : (operation : Operation) (w : Width) (a b : ℕ) → arithmetic operation w a b < 2 ^ bits_of w
arithmetic_fits operation w a b = operation_fits operation (bits_of w) (low (bits_of w) a) (low (bits_of w) b) (low_fits (bits_of w) a) (low_fits (bits_of w) b)
