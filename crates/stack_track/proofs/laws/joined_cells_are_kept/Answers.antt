use Rattle.stack_track.proofs.Known.{cells_first, cells_second}
use Rattle.stack_track.proofs.laws.joined_cells_are_kept.Goals as goal

pub returns-clause-first : goal.returns-clause-first
returns-clause-first g c = cells_first g.D.Domain (record { words = g.met.D.Domain.contained_are_words; any = g.met.D.Domain.any_contains_all; first = g.met.D.Domain.joins_contain_the_first; second = g.met.D.Domain.joins_contain_the_second; conversions = g.met.D.Domain.conversions_are_contained; bounds = g.met.D.Domain.bounds_hold; zeros = g.met.D.Domain.low_zeros_hold })

pub returns-clause-second : goal.returns-clause-second
returns-clause-second g c = cells_second g.D.Domain (record { words = g.met.D.Domain.contained_are_words; any = g.met.D.Domain.any_contains_all; first = g.met.D.Domain.joins_contain_the_first; second = g.met.D.Domain.joins_contain_the_second; conversions = g.met.D.Domain.conversions_are_contained; bounds = g.met.D.Domain.bounds_hold; zeros = g.met.D.Domain.low_zeros_hold })
