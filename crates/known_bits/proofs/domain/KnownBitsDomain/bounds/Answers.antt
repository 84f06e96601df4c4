use Rattle.std.proofs.lemmas.Nat.{le_or_l}
use Rattle.known_bits.proofs.domain.KnownBitsDomain.bounds.Goals as goal

pub returns-clause-ordered : goal.returns-clause-ordered
returns-clause-ordered c = rw (c.value.ensures, c.value-2.ensures) (le_or_l _ _)
