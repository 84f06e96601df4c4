use Rattle.breaker.proofs.Deciding.{Stays, permission_stays}
use Rattle.breaker.proofs.machine.Breaker.permission.Goals as goal

pub returns-clause-stays : goal.returns-clause-stays
returns-clause-stays c =
    let stays : Stays c.self.inside.standing c.permission_in.result.standing = rw c.permission_in.ensures (permission_stays c.self.inside.standing.state c.parts.result c.self.inside.standing c.self.inside.half_open.total c.self.inside.held c.args.moment) in
    rw (← c.self.view_is) stays
