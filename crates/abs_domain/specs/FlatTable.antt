-- The flat domain: what each operation makes of one word, or of any.
use Rattle.std.specs.Prelude.{ℕ, ◌≡◌, ◌==◌, ◌-◌, ◌^◌, ◌%◌, Bool, false, if◌then◌else◌}
use Rattle.bpf_profile.specs.Words.{IsWord}
use Rattle.bpf_profile.specs.declared.instruction.Size.{Size}
use Rattle.abs_domain.specs.Operations.{word_operation, word_shift, word_conversion}
use Rattle.abs_domain.specs.declared.flat.Flat.{Flat}
use Rattle.abs_domain.specs.declared.flat.Flat.TheVariants as flat
use Rattle.abs_domain.specs.declared.operations.Binary.{Binary}
use Rattle.abs_domain.specs.declared.operations.Bits.{Bits}
use Rattle.abs_domain.specs.declared.operations.Bounds.{Bounds}
use Rattle.abs_domain.specs.declared.operations.Conversion.{Conversion}
use Rattle.abs_domain.specs.declared.operations.Relation.{Relation}
use Rattle.abs_domain.specs.declared.operations.Relation.TheVariants as relation
use Rattle.abs_domain.specs.declared.operations.Shift.{Shift}

abbrev pub FlatContains : Flat → ℕ → Type 0
FlatContains (flat.One word) n = IsWord n × (n ≡ word)
FlatContains flat.Any n = IsWord n

-- a join keeps the word that both have
abbrev pub flat_join : Flat → Flat → Flat
flat_join (flat.One a) (flat.One b) = if a == b then flat.One a else flat.Any
flat_join (flat.One a) flat.Any = flat.Any
flat_join flat.Any b = flat.Any

-- the result where every operand is one word
abbrev pub flat_operation : Binary → Flat → Flat → Flat
flat_operation operation (flat.One a) (flat.One b) = flat.One (word_operation operation a b)
flat_operation operation (flat.One a) flat.Any = flat.Any
flat_operation operation flat.Any b = flat.Any

abbrev pub flat_shift : Shift → Flat → ℕ → Flat
flat_shift shift (flat.One a) count = flat.One (word_shift shift a count)
flat_shift shift flat.Any count = flat.Any

abbrev pub flat_conversion : Conversion → Size → Flat → Flat
flat_conversion conversion size (flat.One a) = flat.One (word_conversion conversion size a)
flat_conversion conversion size flat.Any = flat.Any

abbrev pub flat_bounds : Flat → Bounds
flat_bounds (flat.One a) = record { low = a; high = a }
flat_bounds flat.Any = record { low = 0; high = 2 ^ 64 - 1 }

abbrev pub flat_bits : Flat → Bits
flat_bits (flat.One a) = record { value = a; unknown = 0 }
flat_bits flat.Any = record { value = 0; unknown = 2 ^ 64 - 1 }

abbrev pub flat_low_zero : Flat → ℕ → Bool
flat_low_zero (flat.One a) count = a % 2 ^ count == 0
flat_low_zero flat.Any count = false

-- where two are equal, the one that is any becomes the other's word
abbrev pub flat_first : Relation → Flat → Flat → Flat
flat_first relation.Equal flat.Any b = b
flat_first relation.Equal (flat.One a) b = flat.One a
flat_first relation.NotEqual a b = a
flat_first relation.Greater a b = a
flat_first relation.GreaterOrEqual a b = a
flat_first relation.Disjoint a b = a
flat_first relation.Overlapping a b = a

abbrev pub flat_second : Relation → Flat → Flat → Flat
flat_second relation.Equal a flat.Any = a
flat_second relation.Equal a (flat.One b) = flat.One b
flat_second relation.NotEqual a b = b
flat_second relation.Greater a b = b
flat_second relation.GreaterOrEqual a b = b
flat_second relation.Disjoint a b = b
flat_second relation.Overlapping a b = b
