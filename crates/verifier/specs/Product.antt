-- The domain that verifying stands on: ranges and known bits, which sharpen each other.
use Rattle.abs_domain.specs.declared.domain.Domain.{Ghosts}
use Rattle.abs_domain.specs.declared.operations.Bits.{Bits}
use Rattle.abs_domain.specs.declared.operations.Bounds.{Bounds}
use Rattle.known_bits.specs.contracts.domain.KnownBitsDomain.TheImpl as bits
use Rattle.known_bits.specs.contracts.known.KnownBits as bits_type
use Rattle.abs_domain.specs.contracts.product.BothDomain.TheImpl as both
use Rattle.abs_domain.specs.declared.product.Both.{Both}
use Rattle.ranges.specs.contracts.range.Range as range_type
use Rattle.ranges.specs.contracts.range.RangeDomain.TheImpl as range
use Rattle.std.specs.declared.clone.Clone.{Ghosts as Clones}

-- of how values are cloned a domain says nothing
abbrev pub clones : {A : Type 0} → Clones A
clones = record { is_clone = λ a b. Unit {0}; is_infallible = λ a. Unit {0} }

-- the tables of `Both<Range, KnownBits>`
abbrev pub product : Ghosts (Both Bounds Bits)
product = both.ghosts range_type.the_row bits_type.the_row range.ghosts range.dict clones range.dict bits.ghosts bits.dict clones bits.dict
