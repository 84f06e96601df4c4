use Rattle.service_laws.proofs.Stays.{nothing_different}
use Rattle.service_laws.proofs.laws.stays_without_end_change_nothing.Goals as goal

pub returns : goal.returns
returns c = nothing_different
