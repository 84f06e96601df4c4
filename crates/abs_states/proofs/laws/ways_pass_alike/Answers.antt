use Rattle.abs_states.proofs.Alike.{passes_alike}
use Rattle.abs_states.proofs.laws.ways_pass_alike.Goals as goal

pub returns : goal.returns
returns g c = passes_alike g.D.Domain
