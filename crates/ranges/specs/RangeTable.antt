-- The domain of ranges: what each operation makes of words between two bounds, both included.
use Rattle.std.specs.Prelude.{ℕ, ◌≡◌, ◌+◌, ◌-◌, ◌*◌, ◌/◌, ◌%◌, ◌^◌, ◌≤◌, ◌==◌, ◌&&◌, min, max, nat_lt, nat_le, Bool, if◌then◌else◌}
use Rattle.std.specs.Int.{w64, leading_zeros}
use Rattle.bpf_profile.specs.Words.{IsWord, bits_in}
use Rattle.bpf_profile.specs.declared.instruction.Size.{Size}
use Rattle.abs_domain.specs.Operations.{word_shift}
use Rattle.abs_domain.specs.declared.operations.Binary.{Binary}
use Rattle.abs_domain.specs.declared.operations.Binary.TheVariants as binary
use Rattle.abs_domain.specs.declared.operations.Bits.{Bits}
use Rattle.abs_domain.specs.declared.operations.Bounds.{Bounds}
use Rattle.abs_domain.specs.declared.operations.Conversion.{Conversion}
use Rattle.abs_domain.specs.declared.operations.Conversion.TheVariants as conversion
use Rattle.abs_domain.specs.declared.operations.Relation.{Relation}
use Rattle.abs_domain.specs.declared.operations.Relation.TheVariants as relation
use Rattle.abs_domain.specs.declared.operations.Shift.{Shift}
use Rattle.abs_domain.specs.declared.operations.Shift.TheVariants as shift

-- which words a range contains
abbrev pub RangeContains : Bounds → ℕ → Type 0
RangeContains a n = IsWord n × (a.low ≤ n) × (n ≤ a.high)

-- the words from one to another
abbrev pub between : ℕ → ℕ → Bounds
between low high = record { low = low; high = high }

abbrev pub range_any : Bounds
range_any = between 0 (2 ^ 64 - 1)

-- the greatest word; a bound over all words, which no range has, stands for the last of them
abbrev pub last_word : Bounds → ℕ
last_word a = min a.high (2 ^ 64 - 1)

abbrev pub range_join : Bounds → Bounds → Bounds
range_join a b = between (min a.low b.low) (max a.high b.high)

-- sums wrap for no words, for all, or for some
abbrev pub range_sum : Bounds → Bounds → Bounds
range_sum a b =
    if nat_lt (a.high + b.high) (2 ^ 64) then between (a.low + b.low) (a.high + b.high)
    else if nat_le (2 ^ 64) (a.low + b.low) then between (a.low + b.low - 2 ^ 64) (a.high + b.high - 2 ^ 64)
    else range_any

-- and so do differences
abbrev pub range_difference : Bounds → Bounds → Bounds
range_difference a b =
    if nat_le b.high a.low then between (a.low - b.high) (a.high - b.low)
    else if nat_lt a.high b.low then between (a.low + 2 ^ 64 - b.high) (a.high + 2 ^ 64 - b.low)
    else range_any

abbrev pub range_product : Bounds → Bounds → Bounds
range_product a b = if nat_lt (a.high * b.high) (2 ^ 64) then between (a.low * b.low) (a.high * b.high) else range_any

-- the quotient by 0 is 0 (RFC 9669, section 4.1)
abbrev pub range_quotient : Bounds → Bounds → Bounds
range_quotient a b = if nat_le 1 b.low then between (a.low / b.high) (a.high / b.low) else between 0 a.high

-- the remainder by 0 is the dividend (RFC 9669, section 4.1)
abbrev pub range_remainder : Bounds → Bounds → Bounds
range_remainder a b = if nat_le 1 b.low then between 0 (min a.high (b.high - 1)) else between 0 a.high

-- whether all words of both are below 2^63, so that their signed readings are the words themselves
abbrev pub have_no_sign : Bounds → Bounds → Bool
have_no_sign a b = nat_lt a.high (2 ^ 63) && nat_lt b.high (2 ^ 63)

abbrev pub range_signed_quotient : Bounds → Bounds → Bounds
range_signed_quotient a b = if have_no_sign a b then range_quotient a b else range_any

abbrev pub range_signed_remainder : Bounds → Bounds → Bounds
range_signed_remainder a b = if have_no_sign a b then range_remainder a b else range_any

-- a number of ones alone
abbrev pub IsOnes : ℕ → Type 0
IsOnes n = (k : ℕ) × (n ≡ 2 ^ k - 1)

-- the least number of ones alone that is at least the word
abbrev pub ones_over : ℕ → ℕ
ones_over n = 2 ^ (64 - leading_zeros w64 n) - 1

-- all bits up to the highest one that a word of either has
abbrev pub ones_over_both : Bounds → Bounds → ℕ
ones_over_both a b = ones_over (max (last_word a) (last_word b))

abbrev pub range_and : Bounds → Bounds → Bounds
range_and a b = between 0 (min a.high b.high)

abbrev pub range_or : Bounds → Bounds → Bounds
range_or a b = between (max a.low b.low) (ones_over_both a b)

abbrev pub range_xor : Bounds → Bounds → Bounds
range_xor a b = between 0 (ones_over_both a b)

abbrev pub range_operation : Binary → Bounds → Bounds → Bounds
range_operation binary.Add a b = range_sum a b
range_operation binary.Subtract a b = range_difference a b
range_operation binary.Multiply a b = range_product a b
range_operation binary.Divide a b = range_quotient a b
range_operation binary.SignedDivide a b = range_signed_quotient a b
range_operation binary.Modulo a b = range_remainder a b
range_operation binary.SignedModulo a b = range_signed_remainder a b
range_operation binary.And a b = range_and a b
range_operation binary.Or a b = range_or a b
range_operation binary.Xor a b = range_xor a b

abbrev pub range_shift_left : Bounds → ℕ → Bounds
range_shift_left a count = if nat_lt (a.high * 2 ^ count) (2 ^ 64) then between (a.low * 2 ^ count) (a.high * 2 ^ count) else range_any

abbrev pub range_shift_right : Bounds → ℕ → Bounds
range_shift_right a count = between (a.low / 2 ^ count) (a.high / 2 ^ count)

-- words below 2^63 keep their order, and so do words from there on, whose sign is copied
abbrev pub range_arithmetic_shift_right : Bounds → ℕ → Bounds
range_arithmetic_shift_right a count =
    if nat_lt a.high (2 ^ 63) then range_shift_right a count
    else if nat_le (2 ^ 63) a.low then between (word_shift shift.ArithmeticRight a.low count) (word_shift shift.ArithmeticRight (last_word a) count)
    else range_any

abbrev pub range_shift : Shift → Bounds → ℕ → Bounds
range_shift shift.Left a count = range_shift_left a count
range_shift shift.Right a count = range_shift_right a count
range_shift shift.ArithmeticRight a count = range_arithmetic_shift_right a count

-- what a size's low bytes can hold
abbrev pub range_of_size : Size → Bounds
range_of_size size = between 0 (2 ^ bits_in size - 1)

abbrev pub range_conversion : Conversion → Size → Bounds → Bounds
range_conversion conversion.Low size a = if nat_lt a.high (2 ^ bits_in size) then a else range_of_size size
range_conversion conversion.SignExtended size a = if nat_lt a.high (2 ^ (bits_in size - 1)) then a else range_any
range_conversion conversion.Swapped size a = range_of_size size

abbrev pub range_bits : Bounds → Bits
range_bits a = if a.low == a.high then record { value = a.low; unknown = 0 } else record { value = 0; unknown = 2 ^ 64 - 1 }

abbrev pub range_low_zero : Bounds → ℕ → Bool
range_low_zero a count = (a.low == a.high) && (a.low % 2 ^ count == 0)

-- the words of both, if there are any
abbrev pub range_common : Bounds → Bounds → Bounds
range_common a b = if nat_le (max a.low b.low) (min a.high b.high) then between (max a.low b.low) (min a.high b.high) else a

-- without the word, if that is the first or the last one
abbrev pub range_without : Bounds → ℕ → Bounds
range_without a word =
    if a.low == word then between (a.low + 1) a.high
    else if a.high == word then between a.low (a.high - 1)
    else a

-- without the one word of the other, unless this has only that word too
abbrev pub range_parted : Bounds → Bounds → Bounds
range_parted a b = if (b.low == b.high) && nat_lt a.low a.high then range_without a b.low else a

-- without words of which the other has no lesser one
abbrev pub range_above : Bounds → Bounds → Bounds
range_above a b = if nat_lt b.low a.high then between (max a.low (b.low + 1)) a.high else a

-- without words of which the other has no greater one
abbrev pub range_below : Bounds → Bounds → Bounds
range_below a b = if nat_lt a.low b.high then between a.low (min a.high (b.high - 1)) else a

-- the same where the other may have the word itself
abbrev pub range_at_least : Bounds → Bounds → Bounds
range_at_least a b = if nat_le b.low a.high then between (max a.low b.low) a.high else a

abbrev pub range_at_most : Bounds → Bounds → Bounds
range_at_most a b = if nat_le a.low b.high then between a.low (min a.high b.high) else a

-- what a comparison tells of the first; where no words of both are related so, nothing changes
abbrev pub range_first : Relation → Bounds → Bounds → Bounds
range_first relation.Equal a b = range_common a b
range_first relation.NotEqual a b = range_parted a b
range_first relation.Greater a b = range_above a b
range_first relation.GreaterOrEqual a b = range_at_least a b
range_first relation.Disjoint a b = a
range_first relation.Overlapping a b = a

-- and of the second
abbrev pub range_second : Relation → Bounds → Bounds → Bounds
range_second relation.Equal a b = range_common b a
range_second relation.NotEqual a b = range_parted b a
range_second relation.Greater a b = range_below b a
range_second relation.GreaterOrEqual a b = range_at_most b a
range_second relation.Disjoint a b = b
range_second relation.Overlapping a b = b
