use Rattle.service_laws.proofs.Tripping.{opened_then}
use Rattle.service_laws.proofs.laws.closed_opens_for_each_reason.Goals as goal

pub returns : goal.returns
returns c = opened_then
