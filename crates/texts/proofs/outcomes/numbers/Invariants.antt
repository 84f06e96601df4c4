use Rattle.std.proofs.Common.{◌≡◌, ◌-◌, drop, length, replicate}
use Rattle.texts.proofs.Numbers.{IsReadTo}
use Rattle.texts.proofs.outcomes.numbers.Given as goal

abbrev pub invariant-loop-i : goal.invariant-loop-i
invariant-loop-i l = record {
  full : length l.numbers ≡ 16;
  read : IsReadTo l.items l.numbers l.i;
  zeros : drop l.i l.numbers ≡ replicate (16 - l.i) 0;
}
