-- What bounds and known bits of the same words tell of one another.
use Rattle.std.specs.Prelude.{ℕ, ◌≡◌, ◌==◌, ◌≤◌, ◌-◌, ◌^◌, ◌&&◌, nat_le, nat_lt, Bool, min, max, if◌then◌else◌, bit_and, bit_or, bit_xor}
use Rattle.std.specs.Int.{bit_at, leading_zeros, bit_not, w64}
use Rattle.abs_domain.specs.declared.operations.Bits.{Bits}
use Rattle.abs_domain.specs.declared.operations.Bounds.{Bounds}

-- the bounds, and the least and the greatest word that has these bits
abbrev pub narrowed : Bounds → Bits → Bounds
narrowed bounds bits = record { low = max bounds.low bits.value; high = min bounds.high (bit_or bits.value bits.unknown) }

-- a bit is among the leading bits that two words share: it and all higher bits are the same in both
abbrev pub SharesLeadingBit : ℕ → ℕ → ℕ → Type 0
SharesLeadingBit a b bit = (i : ℕ) → bit ≤ i → bit_at a i ≡ bit_at b i

-- ones up to the highest bit in which two words differ, so that the bits that are 0 are the leading bits that the two share
abbrev pub differing : ℕ → ℕ → ℕ
differing a b = 2 ^ (64 - leading_zeros w64 (bit_xor a b)) - 1

-- the leading bits, which all words in the bounds have
abbrev pub leading : Bounds → Bits
leading bounds = record { value = bounds.low; unknown = differing bounds.low bounds.high }

-- whether the bits that both know are the same
abbrev pub agree : Bits → Bits → Bool
agree a b = bit_and (bit_xor a.value b.value) (bit_not w64 (bit_or a.unknown b.unknown)) == 0

-- whether some word may have both; bounds above all words, which no value has, tell nothing
abbrev pub is_consistent : Bounds → Bits → Bool
is_consistent bounds bits = nat_le (narrowed bounds bits).low (narrowed bounds bits).high && nat_lt (narrowed bounds bits).high (2 ^ 64) && agree bits (leading (narrowed bounds bits))

-- a value with the bounds, clamped to what the bits of the other say
abbrev pub reduced_first : {X : Type 0} → (X → Bounds → X) → X → Bounds → Bits → X
reduced_first clamped x bounds bits = if is_consistent bounds bits then clamped x (narrowed bounds bits) else x

-- a value with the bits, in which the leading bits of the other's bounds are fixed
abbrev pub reduced_second : {Y : Type 0} → (Y → Bits → Y) → Y → Bounds → Bits → Y
reduced_second fixed y bounds bits = if is_consistent bounds bits then fixed y (leading (narrowed bounds bits)) else y

-- the bounds that both have, or the first where they cross
abbrev pub common_bounds : Bounds → Bounds → Bounds
common_bounds a b = if nat_le (max a.low b.low) (min a.high b.high) then record { low = max a.low b.low; high = min a.high b.high } else a
