use Rattle.service_laws.proofs.Stays.{call_refused}
use Rattle.service_laws.proofs.laws.call_that_ends_a_stay_is_refused.Goals as goal

pub returns : goal.returns
returns c = call_refused
