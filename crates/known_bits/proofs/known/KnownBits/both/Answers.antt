use Rattle.known_bits.proofs.Apart.{both_apart}
use Rattle.known_bits.proofs.known.KnownBits.both.Goals as goal

pub invariant_of-result : goal.invariant_of-result
invariant_of-result c = both_apart _ _ _ _ c.self.invariant c.other.invariant
