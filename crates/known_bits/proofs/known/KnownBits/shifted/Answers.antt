use Rattle.known_bits.proofs.Moves.{shift_apart}
use Rattle.known_bits.proofs.known.KnownBits.shifted.Goals as goal

pub invariant_of-result : goal.invariant_of-result
invariant_of-result c = rw (c.shifted.ensures, c.shifted-2.ensures) (shift_apart _ _ _ _ c.self.invariant)
