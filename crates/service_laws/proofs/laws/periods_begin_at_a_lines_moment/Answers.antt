use Rattle.service_laws.proofs.Periods.{begun_at}
use Rattle.service_laws.proofs.laws.periods_begin_at_a_lines_moment.Goals as goal

pub returns : goal.returns
returns c = begun_at
