use Rattle.std.proofs.Common.{arith, ap, refl}
use Rattle.service_profile.specs.declared.standings.Standing.{Standing}
use Rattle.book.proofs.machine.moved_to.Goals as goal

pub moved-next-requires : goal.moved-next-requires
moved-next-requires c = omega (arith, ap (λ (n : Standing). n.period) c.standing.ensures.standing, c.requires.period)

pub returns-clause-moves : goal.returns-clause-moves
returns-clause-moves c = λ held s stands. rw (c.moved-next.ensures, c.standing.ensures.stands held s stands) refl

pub returns-clause-resets : goal.returns-clause-resets
returns-clause-resets c = λ held s stands. rw (c.moved-next.ensures, c.standing.ensures.stands held s stands) refl
