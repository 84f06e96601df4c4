-- The domain of known bits: what each operation makes of words whose bits are partly known.
use Rattle.std.specs.Prelude.{ℕ, ◌≡◌, ◌==◌, ◌-◌, ◌^◌, ◌%◌, Bool, ◌&&◌, bit_and, bit_or, bit_xor, if◌then◌else◌}
use Rattle.std.specs.Int.{trailing_zeros, w64}
use Rattle.bpf_profile.specs.declared.instruction.Size.{Size}
use Rattle.abs_domain.specs.Agreement.{Agrees}
use Rattle.abs_domain.specs.Operations.{word_operation, word_shift, word_conversion}
use Rattle.abs_domain.specs.declared.operations.Binary.{Binary}
use Rattle.abs_domain.specs.declared.operations.Binary.TheVariants as binary
use Rattle.abs_domain.specs.declared.operations.Bits.{Bits}
use Rattle.abs_domain.specs.declared.operations.Bounds.{Bounds}
use Rattle.abs_domain.specs.declared.operations.Conversion.{Conversion}
use Rattle.abs_domain.specs.declared.operations.Relation.{Relation}
use Rattle.abs_domain.specs.declared.operations.Relation.TheVariants as relation
use Rattle.abs_domain.specs.declared.operations.Shift.{Shift}

-- the bits of the first that the second doesn't have
unfoldable pub without : ℕ → ℕ → ℕ
without a b = bit_xor a (bit_and a b)

-- no bit is both known to be 1 and unknown, and the word has the known bits
abbrev pub KnownContains : Bits → ℕ → Type 0
KnownContains a n = (bit_and a.value a.unknown ≡ 0) × Agrees a.value a.unknown n

abbrev pub known_word : ℕ → Bits
known_word word = record { value = word; unknown = 0 }

abbrev pub known_any : Bits
known_any = record { value = 0; unknown = 2 ^ 64 - 1 }

-- a bit is known where both know it, and agree
abbrev pub join_unknown : Bits → Bits → ℕ
join_unknown a b = bit_or (bit_or a.unknown b.unknown) (bit_xor a.value b.value)

abbrev pub known_join : Bits → Bits → Bits
known_join a b = record { value = without a.value (join_unknown a b); unknown = join_unknown a b }

-- how many of the lowest bits are known in both
abbrev pub known_low : Bits → Bits → ℕ
known_low a b = trailing_zeros w64 (bit_or a.unknown b.unknown)

-- the lowest bits of a result, so many, are known, and the others not
abbrev pub low_bits : ℕ → ℕ → Bits
low_bits count result = record { value = result % 2 ^ count; unknown = 2 ^ 64 - 2 ^ count }

-- the result where both are wholly known
abbrev pub if_words : Bits → Bits → ℕ → Bits
if_words a b result = if bit_or a.unknown b.unknown == 0 then known_word result else known_any

-- known to be 0 where either is, and to be 1 where both are
abbrev pub known_and : Bits → Bits → Bits
known_and a b = record {
  value = bit_and a.value b.value;
  unknown = without (bit_and (bit_or a.value a.unknown) (bit_or b.value b.unknown)) (bit_and a.value b.value);
}

-- known to be 1 where either is, and to be 0 where both are
abbrev pub known_or : Bits → Bits → Bits
known_or a b = record {
  value = bit_or a.value b.value;
  unknown = without (bit_or a.unknown b.unknown) (bit_or a.value b.value);
}

-- known where both are
abbrev pub known_xor : Bits → Bits → Bits
known_xor a b = record {
  value = without (bit_xor a.value b.value) (bit_or a.unknown b.unknown);
  unknown = bit_or a.unknown b.unknown;
}

abbrev pub known_operation : Binary → Bits → Bits → Bits
known_operation binary.Add a b = low_bits (known_low a b) (word_operation binary.Add a.value b.value)
known_operation binary.Subtract a b = low_bits (known_low a b) (word_operation binary.Subtract a.value b.value)
known_operation binary.Multiply a b = low_bits (known_low a b) (word_operation binary.Multiply a.value b.value)
known_operation binary.Divide a b = if_words a b (word_operation binary.Divide a.value b.value)
known_operation binary.SignedDivide a b = if_words a b (word_operation binary.SignedDivide a.value b.value)
known_operation binary.Modulo a b = if_words a b (word_operation binary.Modulo a.value b.value)
known_operation binary.SignedModulo a b = if_words a b (word_operation binary.SignedModulo a.value b.value)
known_operation binary.And a b = known_and a b
known_operation binary.Or a b = known_or a b
known_operation binary.Xor a b = known_xor a b

-- each unknown bit goes where the bit goes
abbrev pub known_shift : Shift → Bits → ℕ → Bits
known_shift shift a count = record { value = word_shift shift a.value count; unknown = word_shift shift a.unknown count }

abbrev pub known_conversion : Conversion → Size → Bits → Bits
known_conversion conversion size a = record {
  value = word_conversion conversion size a.value;
  unknown = word_conversion conversion size a.unknown;
}

-- with every unknown bit 0, and with every unknown bit 1
abbrev pub known_bounds : Bits → Bounds
known_bounds a = record { low = a.value; high = bit_or a.value a.unknown }

abbrev pub known_low_zero : Bits → ℕ → Bool
known_low_zero a count = bit_or a.value a.unknown % 2 ^ count == 0

-- the bits that both know, and know to differ
abbrev pub clashes : Bits → Bits → ℕ
clashes a b = without (without (bit_xor a.value b.value) a.unknown) b.unknown

-- what either knows, of equal words
abbrev pub known_both : Bits → Bits → Bits
known_both a b = record { value = bit_or a.value b.value; unknown = bit_and a.unknown b.unknown }

-- where the bitwise and with a known word is 0, that word's 1 bits are 0
abbrev pub known_apart : Bits → Bits → Bits
known_apart a b =
    if (b.unknown == 0) && (bit_and a.value b.value == 0)
    then record { value = a.value; unknown = without a.unknown b.value }
    else a

abbrev pub known_first : Relation → Bits → Bits → Bits
known_first relation.Equal a b = if clashes a b == 0 then known_both a b else a
known_first relation.NotEqual a b = a
known_first relation.Greater a b = a
known_first relation.GreaterOrEqual a b = a
known_first relation.Disjoint a b = known_apart a b
known_first relation.Overlapping a b = a

abbrev pub known_second : Relation → Bits → Bits → Bits
known_second relation.Equal a b = if clashes a b == 0 then known_both a b else b
known_second relation.NotEqual a b = b
known_second relation.Greater a b = b
known_second relation.GreaterOrEqual a b = b
known_second relation.Disjoint a b = b
known_second relation.Overlapping a b = b

-- the bits that the other knows become its bits
abbrev pub known_fixed : Bits → Bits → Bits
known_fixed a bits = record {
  value = bit_or (bit_and a.value bits.unknown) (without bits.value bits.unknown);
  unknown = bit_and a.unknown bits.unknown;
}
