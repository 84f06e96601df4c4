use Rattle.stack_track.proofs.Stores.{store_follows}
use Rattle.stack_track.proofs.laws.stores_follow.Goals as goal

pub returns : goal.returns
returns g c = store_follows g.D.Domain
