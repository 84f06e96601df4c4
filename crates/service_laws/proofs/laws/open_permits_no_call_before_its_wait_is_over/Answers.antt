use Rattle.service_laws.proofs.Waits.{waited}
use Rattle.service_laws.proofs.laws.open_permits_no_call_before_its_wait_is_over.Goals as goal

pub returns : goal.returns
returns c = waited
