use Rattle.known_bits.proofs.Moves.{conversion_apart}
use Rattle.known_bits.proofs.known.KnownBits.converted.Goals as goal

pub invariant_of-result : goal.invariant_of-result
invariant_of-result c =
    rw (c.resized.ensures, c.resized-2.ensures) (conversion_apart c.args.conversion c.args.size _ _ c.self.invariant)
