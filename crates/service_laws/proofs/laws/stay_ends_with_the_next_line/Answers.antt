use Rattle.service_laws.proofs.Stays.{stay_ends}
use Rattle.service_laws.proofs.laws.stay_ends_with_the_next_line.Goals as goal

pub returns : goal.returns
returns c = stay_ends
