use Rattle.std.proofs.Common.{◌<◌, ◌≤◌, arith}
use Rattle.std.proofs.lemmas.Nat.{one_shl}
use Rattle.std.proofs.lemmas.Nat.Bits.{ones_shl}
use Rattle.known_bits.proofs.Apart.{low_apart}
use Rattle.known_bits.proofs.known.KnownBits.low_of.Goals as goal

pub invariant_of-result : goal.invariant_of-result
invariant_of-result c =
    let fewer : c.args.count < 64 = omega arith in
    let most : c.args.count ≤ 64 = omega arith in
    rw (one_shl c.args.count 64 fewer, ones_shl 64 c.args.count most) (low_apart c.args.word c.args.count)
