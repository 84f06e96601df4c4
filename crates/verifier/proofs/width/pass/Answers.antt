use Rattle.verifier.proofs.Marked.{count_passed}
use Rattle.verifier.proofs.width.pass.Goals as goal

pub returns-clause-counted : goal.returns-clause-counted
returns-clause-counted c =
    count_passed c.args.slots.now c.args.place c.args.awaited c.behind-others.result c.mark-next.result c.mark-target.result c.edges_at-edges.result.next c.edges_at-edges.result.target c.args.marks.now c.mark-next.new.marks c.mark-target.new.marks
    c.requires.program c.requires.accepted c.edges_at-edges.ensures.edges c.behind-others.ensures c.mark-next.ensures.counted c.mark-target.ensures.counted
