use Rattle.abs_domain.proofs.Branched.{first_kept, second_kept}
use Rattle.abs_domain.proofs.laws.branches_keep_words.Goals as goal

pub returns-clause-first : goal.returns-clause-first
returns-clause-first g c = first_kept g.D.Domain (record { bounds = g.met.D.Domain.bounds_hold; first = g.met.D.Domain.refining_keeps_the_first; second = g.met.D.Domain.refining_keeps_the_second })

pub returns-clause-second : goal.returns-clause-second
returns-clause-second g c = second_kept g.D.Domain (record { bounds = g.met.D.Domain.bounds_hold; first = g.met.D.Domain.refining_keeps_the_first; second = g.met.D.Domain.refining_keeps_the_second })
