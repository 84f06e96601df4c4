use Rattle.known_bits.proofs.Without.{without_is}
use Rattle.known_bits.proofs.bitwise.without.Goals as goal

pub returns : goal.returns
returns c = without_is c.args.a c.args.b c.ranges.a.fits c.ranges.b.fits
