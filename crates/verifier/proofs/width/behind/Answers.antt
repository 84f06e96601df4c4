use Rattle.std.proofs.Common.{arith}
use Rattle.verifier.proofs.Marked.{count_yes, count_no}
use Rattle.verifier.proofs.width.behind.Goals as goal

pub returns-then-marks-place : goal.returns-then-marks-place
returns-then-marks-place c = let more = count_yes c.args.marks.now c.args.place c.requires.place c.if-marks-place.true in let all = c.requires.awaited in omega (arith, more, all)

pub returns-else-marks-place : goal.returns-else-marks-place
returns-else-marks-place c = let same = count_no c.args.marks.now c.args.place c.requires.place c.if-marks-place.false in let all = c.requires.awaited in omega (arith, same, all)
