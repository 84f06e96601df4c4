use Rattle.std.proofs.Common.{refl}
use Rattle.flow_check.proofs.Walks.{lengthened_both}
use Rattle.flow_check.proofs.flow.follow.Goals as goal

pub returns : goal.returns
returns c = lengthened_both _ _ _ _ _ _ _ c.lengthen.ensures c.lengthen-2.ensures refl
