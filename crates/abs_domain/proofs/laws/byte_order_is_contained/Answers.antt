use Rattle.abs_domain.proofs.Contained.{byte_order_kept}
use Rattle.abs_domain.proofs.laws.byte_order_is_contained.Goals as goal

pub returns : goal.returns
returns g c = byte_order_kept g.D.Domain (record { words = g.met.D.Domain.contained_are_words; constants = g.met.D.Domain.words_are_contained; any = g.met.D.Domain.any_contains_all; operations = g.met.D.Domain.operations_are_contained; shifts = g.met.D.Domain.shifts_are_contained; conversions = g.met.D.Domain.conversions_are_contained; bounds = g.met.D.Domain.bounds_hold })
