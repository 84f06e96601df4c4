use Rattle.stack_track.proofs.Known.{entry_follows}
use Rattle.stack_track.proofs.laws.entry_is_known.Goals as goal

pub returns : goal.returns
returns g c = entry_follows g.D.Domain
