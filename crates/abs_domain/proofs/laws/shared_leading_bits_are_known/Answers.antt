use Rattle.abs_domain.proofs.Sharing.{shared_from_clear, clear_from_shared}
use Rattle.abs_domain.proofs.laws.shared_leading_bits_are_known.Goals as goal

pub returns : goal.returns
returns c = λ a b bit v w. (shared_from_clear a b bit v w, clear_from_shared a b bit v w)
