use Rattle.known_bits.proofs.Apart.{apart_without}
use Rattle.known_bits.proofs.known.KnownBits.and.Goals as goal

pub invariant_of-result : goal.invariant_of-result
invariant_of-result c = rw c.without.ensures (apart_without _ _)
