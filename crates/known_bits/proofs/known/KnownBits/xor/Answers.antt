use Rattle.known_bits.proofs.Apart.{without_apart}
use Rattle.known_bits.proofs.known.KnownBits.xor.Goals as goal

pub invariant_of-result : goal.invariant_of-result
invariant_of-result c = rw c.without.ensures (without_apart _ _)
