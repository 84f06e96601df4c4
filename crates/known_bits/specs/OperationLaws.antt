-- The law of operations on two words.
use Rattle.std.proofs.Common.{◌≡◌, ℕ, ◌%◌, ◌^◌, sym, subst}
use Rattle.std.specs.Prelude.{bit_and, bit_or, bit_xor}
use Rattle.std.proofs.Math.Nat.{mod-eq_of_lt}
use Rattle.bpf_profile.specs.Words.{IsWord}
use Rattle.abs_domain.specs.OperationLaws.{operation_fits}
use Rattle.abs_domain.specs.Operations.{word_operation}
use Rattle.abs_domain.specs.declared.operations.Binary.{Binary}
use Rattle.abs_domain.specs.declared.operations.Binary.TheVariants as binary
use Rattle.abs_domain.specs.declared.operations.Bits.{Bits}
use Rattle.known_bits.specs.ArithmeticLaws.{sum_contained, difference_contained, product_contained, words_contained}
use Rattle.known_bits.specs.BitwiseLaws.{and_contained, or_contained, xor_contained}
use Rattle.known_bits.specs.KnownBitsTable.{KnownContains, known_operation, known_and, known_or, known_xor}

-- an operation takes words as they are
taken_whole : (f : ℕ → ℕ → ℕ) (n m : ℕ) → IsWord n → IsWord m → f (n % 2 ^ 64) (m % 2 ^ 64) ≡ f n m
taken_whole f n m p q = λ i. f (mod-eq_of_lt p i) (mod-eq_of_lt q i)

pub operation_contained : (operation : Binary) (a b : Bits) (n m : ℕ) → KnownContains a n → KnownContains b m → KnownContains (known_operation operation a b) (word_operation operation n m)
operation_contained binary.Add a b n m h k = sum_contained a b n m h k
operation_contained binary.Subtract a b n m h k = difference_contained a b n m h k
operation_contained binary.Multiply a b n m h k = product_contained a b n m h k
operation_contained binary.Divide a b n m h k = words_contained binary.Divide a b n m h k
operation_contained binary.SignedDivide a b n m h k = words_contained binary.SignedDivide a b n m h k
operation_contained binary.Modulo a b n m h k = words_contained binary.Modulo a b n m h k
operation_contained binary.SignedModulo a b n m h k = words_contained binary.SignedModulo a b n m h k
operation_contained binary.And a b n m h k =
    let same = taken_whole bit_and n m h.1.0 k.1.0 in
    subst (λ x. KnownContains (known_and a b) x) (sym same) (and_contained a b n m (subst IsWord same (operation_fits binary.And n m)) h k)
operation_contained binary.Or a b n m h k =
    let same = taken_whole bit_or n m h.1.0 k.1.0 in
    subst (λ x. KnownContains (known_or a b) x) (sym same) (or_contained a b n m (subst IsWord same (operation_fits binary.Or n m)) h k)
operation_contained binary.Xor a b n m h k =
    let same = taken_whole bit_xor n m h.1.0 k.1.0 in
    subst (λ x. KnownContains (known_xor a b) x) (sym same) (xor_contained a b n m (subst IsWord same (operation_fits binary.Xor n m)) h k)
