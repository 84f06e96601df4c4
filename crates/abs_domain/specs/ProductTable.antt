-- The product of two domains: what each operation makes of a pair of values, by the tables of both domains.
use Rattle.std.specs.Prelude.{ℕ, ◌||◌, Bool}
use Rattle.bpf_profile.specs.declared.instruction.Size.{Size}
use Rattle.abs_domain.specs.declared.domain.Domain.{Ghosts}
use Rattle.abs_domain.specs.declared.operations.Binary.{Binary}
use Rattle.abs_domain.specs.declared.operations.Bits.{Bits}
use Rattle.abs_domain.specs.declared.operations.Bounds.{Bounds}
use Rattle.abs_domain.specs.declared.operations.Conversion.{Conversion}
use Rattle.abs_domain.specs.declared.operations.Relation.{Relation}
use Rattle.abs_domain.specs.declared.operations.Shift.{Shift}
use Rattle.abs_domain.specs.Reduction.{reduced_first, reduced_second, common_bounds}
use Rattle.abs_domain.specs.declared.product.Both.{Both}

-- a pair contains the words that both of its values contain
abbrev pub ProductContains : {X Y : Type 0} → Ghosts X → Ghosts Y → Both X Y → ℕ → Type 0
ProductContains of_first of_second a n = of_first.contains a.first n × of_second.contains a.second n

abbrev pub product_word : {X Y : Type 0} → Ghosts X → Ghosts Y → ℕ → Both X Y
product_word of_first of_second word = record { first = of_first.of_word word; second = of_second.of_word word }

abbrev pub product_any : {X Y : Type 0} → Ghosts X → Ghosts Y → Both X Y
product_any of_first of_second = record { first = of_first.of_any; second = of_second.of_any }

-- each value is joined with its own kind; nothing is reduced
abbrev pub product_join : {X Y : Type 0} → Ghosts X → Ghosts Y → Both X Y → Both X Y → Both X Y
product_join of_first of_second a b = record { first = of_first.joined a.first b.first; second = of_second.joined a.second b.second }

-- two values, reduced once: the first by the bits of the second, the second by the bounds of the first
abbrev pub reduced : {X Y : Type 0} → Ghosts X → Ghosts Y → X → Y → Both X Y
reduced of_first of_second x y = record {
  first = reduced_first of_first.clamped x (of_first.bounds_of x) (of_second.bits_of y);
  second = reduced_second of_second.fixed y (of_first.bounds_of x) (of_second.bits_of y);
}

-- what both domains make of their values, reduced
abbrev pub product_operation : {X Y : Type 0} → Ghosts X → Ghosts Y → Binary → Both X Y → Both X Y → Both X Y
product_operation of_first of_second operation a b = reduced of_first of_second (of_first.computed operation a.first b.first) (of_second.computed operation a.second b.second)

abbrev pub product_shift : {X Y : Type 0} → Ghosts X → Ghosts Y → Shift → Both X Y → ℕ → Both X Y
product_shift of_first of_second shift a count = reduced of_first of_second (of_first.shifted shift a.first count) (of_second.shifted shift a.second count)

abbrev pub product_conversion : {X Y : Type 0} → Ghosts X → Ghosts Y → Conversion → Size → Both X Y → Both X Y
product_conversion of_first of_second conversion size a = reduced of_first of_second (of_first.converted conversion size a.first) (of_second.converted conversion size a.second)

abbrev pub product_bounds : {X Y : Type 0} → Ghosts X → Ghosts Y → Both X Y → Bounds
product_bounds of_first of_second a = common_bounds (of_first.bounds_of a.first) (of_second.bounds_of a.second)

-- the known bits are those of the second value
abbrev pub product_bits : {X Y : Type 0} → Ghosts X → Ghosts Y → Both X Y → Bits
product_bits of_first of_second a = of_second.bits_of a.second

-- either value may know of the low zeros
abbrev pub product_low_zero : {X Y : Type 0} → Ghosts X → Ghosts Y → Both X Y → ℕ → Bool
product_low_zero of_first of_second a count = of_first.has_low_zeros a.first count || of_second.has_low_zeros a.second count

-- what a comparison tells of the first pair, and of the second
abbrev pub product_first : {X Y : Type 0} → Ghosts X → Ghosts Y → Relation → Both X Y → Both X Y → Both X Y
product_first of_first of_second relation a b = reduced of_first of_second (of_first.refined_first relation a.first b.first) (of_second.refined_first relation a.second b.second)

abbrev pub product_second : {X Y : Type 0} → Ghosts X → Ghosts Y → Relation → Both X Y → Both X Y → Both X Y
product_second of_first of_second relation a b = reduced of_first of_second (of_first.refined_second relation a.first b.first) (of_second.refined_second relation a.second b.second)

-- bounds clamp the first value, and bits are fixed in the second
abbrev pub product_clamp : {X Y : Type 0} → Ghosts X → Ghosts Y → Both X Y → Bounds → Both X Y
product_clamp of_first of_second a bounds = record { first = of_first.clamped a.first bounds; second = a.second }

abbrev pub product_fix : {X Y : Type 0} → Ghosts X → Ghosts Y → Both X Y → Bits → Both X Y
product_fix of_first of_second a bits = record { first = a.first; second = of_second.fixed a.second bits }
