use Rattle.stack_track.proofs.Loads.{load_follows}
use Rattle.stack_track.proofs.laws.loads_follow.Goals as goal

pub returns : goal.returns
returns g c = load_follows g.D.Domain (record { words = g.met.D.Domain.contained_are_words; any = g.met.D.Domain.any_contains_all; first = g.met.D.Domain.joins_contain_the_first; second = g.met.D.Domain.joins_contain_the_second; conversions = g.met.D.Domain.conversions_are_contained; bounds = g.met.D.Domain.bounds_hold; zeros = g.met.D.Domain.low_zeros_hold })
