use Rattle.known_bits.proofs.Apart.{fixed_apart}
use Rattle.known_bits.proofs.known.KnownBits.fixed.Goals as goal

pub invariant_of-result : goal.invariant_of-result
invariant_of-result c = rw c.without.ensures (fixed_apart _ _ _ _ c.self.invariant)
