use Rattle.std.proofs.Common.{arith}
use Rattle.desk.proofs.kept.Kept.new.Goals as goal

pub invariant_of-result : goal.invariant_of-result
invariant_of-result g c = record {
  good = c.requires.good;
  one_part = c.requires.one_part;
  counted = omega (arith, c.requires.all_entries, c.requires.unwritten);
  of_service = (0, c.requires.of_service, omega (arith, c.requires.all_cuts));
}
