use Rattle.breaker.proofs.Deciding.{Stays, after_stays}
use Rattle.breaker.proofs.machine.Breaker.after_note.Goals as goal

pub returns-clause-stays : goal.returns-clause-stays
returns-clause-stays c =
    let stays : Stays c.self.inside.standing c.after_totals.result = rw c.after_totals.ensures (after_stays c.self.inside.standing.state c.self.inside.config c.args.note.moment c.self.inside.standing c.totals_after-totals.result) in
    rw (← c.self.view_is) stays
