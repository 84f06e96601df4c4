use Rattle.known_bits.proofs.Apart.{less_apart}
use Rattle.known_bits.proofs.known.KnownBits.apart.Goals as goal

pub invariant_of-result : goal.invariant_of-result
invariant_of-result c = rw c.without.ensures (less_apart _ _ _ c.self.invariant)
