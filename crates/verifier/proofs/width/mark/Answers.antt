use Rattle.std.proofs.Common.{◌≤◌, ◌<◌, length, true, false}
use Rattle.verifier.proofs.Marked.{new_mark, if_some_at}
use Rattle.verifier.proofs.width.mark.Goals as goal

pub returns-then-is_marked-clause-counted : goal.returns-then-is_marked-clause-counted
returns-then-is_marked-clause-counted c = λ from ahead.
    new_mark c.args.marks.now from c.in-Some.to true (if_some_at (λ slot. from ≤ slot) c.args.to c.in-Some.to c.in-Some.is ahead) (if_some_at (λ slot. slot < length c.args.marks.now) c.args.to c.in-Some.to c.in-Some.is c.requires) c.if-is_marked.true

pub returns-else-is_marked-clause-counted : goal.returns-else-is_marked-clause-counted
returns-else-is_marked-clause-counted c = λ from ahead.
    new_mark c.args.marks.now from c.in-Some.to false (if_some_at (λ slot. from ≤ slot) c.args.to c.in-Some.to c.in-Some.is ahead) (if_some_at (λ slot. slot < length c.args.marks.now) c.args.to c.in-Some.to c.in-Some.is c.requires) c.if-is_marked.false
