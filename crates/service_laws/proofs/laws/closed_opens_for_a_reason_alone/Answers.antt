use Rattle.service_laws.proofs.Tripping.{opened_why}
use Rattle.service_laws.proofs.laws.closed_opens_for_a_reason_alone.Goals as goal

pub returns : goal.returns
returns c = opened_why
