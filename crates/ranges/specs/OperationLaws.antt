-- What the operations make of contained words is contained.
use Rattle.std.proofs.Common.{ℕ, sym, subst}
use Rattle.bpf_profile.specs.Words.{IsWord, operation_at}
use Rattle.abs_domain.specs.OperationLaws.{operation_fits}
use Rattle.abs_domain.specs.Operations.{binary_operation, word_operation}
use Rattle.abs_domain.specs.declared.operations.Binary.{Binary}
use Rattle.abs_domain.specs.declared.operations.Binary.TheVariants as binary
use Rattle.abs_domain.specs.declared.operations.Bounds.{Bounds}
use Rattle.ranges.specs.BitwiseLaws.{and_kept, or_kept, xor_kept}
use Rattle.ranges.specs.NumberLaws.{operation_is}
use Rattle.ranges.specs.RangeTable.{RangeContains, range_operation, range_sum, range_difference, range_product, range_quotient, range_remainder, range_signed_quotient, range_signed_remainder, range_and, range_or, range_xor}
use Rattle.ranges.specs.SumLaws.{sum_kept, difference_kept, product_kept, quotient_kept, remainder_kept, signed_quotient_kept, signed_remainder_kept}

fits : (operation : Binary) (n m : ℕ) → IsWord n → IsWord m → IsWord (operation_at (binary_operation operation) 64 n m)
fits operation n m h k = subst IsWord (operation_is operation n m h k) (operation_fits operation n m)

-- what holds of the operation on words as they are
of_words : (operation : Binary) (r : Bounds) (n m : ℕ) → IsWord n → IsWord m → RangeContains r (operation_at (binary_operation operation) 64 n m) → RangeContains r (word_operation operation n m)
of_words operation r n m h k kept = subst (RangeContains r) (sym (operation_is operation n m h k)) kept

pub operation_kept : (operation : Binary) (a b : Bounds) (n m : ℕ) → RangeContains a n → RangeContains b m → RangeContains (range_operation operation a b) (word_operation operation n m)
operation_kept binary.Add a b n m h k = of_words binary.Add (range_sum a b) n m h.0 k.0 (sum_kept a b n m h k)
operation_kept binary.Subtract a b n m h k = of_words binary.Subtract (range_difference a b) n m h.0 k.0 (difference_kept a b n m h k)
operation_kept binary.Multiply a b n m h k = of_words binary.Multiply (range_product a b) n m h.0 k.0 (product_kept a b n m h k)
operation_kept binary.Divide a b n m h k = of_words binary.Divide (range_quotient a b) n m h.0 k.0 (quotient_kept a b n m h k)
operation_kept binary.SignedDivide a b n m h k =
    of_words binary.SignedDivide (range_signed_quotient a b) n m h.0 k.0 (signed_quotient_kept a b n m (fits binary.SignedDivide n m h.0 k.0) h k)
operation_kept binary.Modulo a b n m h k = of_words binary.Modulo (range_remainder a b) n m h.0 k.0 (remainder_kept a b n m h k)
operation_kept binary.SignedModulo a b n m h k =
    of_words binary.SignedModulo (range_signed_remainder a b) n m h.0 k.0 (signed_remainder_kept a b n m (fits binary.SignedModulo n m h.0 k.0) h k)
operation_kept binary.And a b n m h k = of_words binary.And (range_and a b) n m h.0 k.0 (and_kept a b n m h k)
operation_kept binary.Or a b n m h k = of_words binary.Or (range_or a b) n m h.0 k.0 (or_kept a b n m h k)
operation_kept binary.Xor a b n m h k = of_words binary.Xor (range_xor a b) n m h.0 k.0 (xor_kept a b n m h k)
