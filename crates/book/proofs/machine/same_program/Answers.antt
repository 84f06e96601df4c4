use Rattle.std.proofs.lemmas.Bool.Decides.{Decides-eqb}
use Rattle.std.proofs.lemmas.Slice.Eq.{slice_eq-Decides}
use Rattle.book.proofs.Judging.{slots_by_bytes}
use Rattle.book.proofs.machine.same_program.Goals as goal

pub returns-then-eq-clause-slots : goal.returns-then-eq-clause-slots
returns-then-eq-clause-slots c = λ same.
    slots_by_bytes c.args.left.now c.args.right.now c.bytes.result.now c.bytes-2.result.now c.bytes.ensures c.bytes-2.ensures
    ((slice_eq-Decides Decides-eqb _ _ _ c.eq.ensures).0 c.if-eq.true)
