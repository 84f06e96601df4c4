use Rattle.verifier.proofs.Sound.{sound, are_words}
use Rattle.verifier.proofs.laws.faultless_programs_are_safe.Goals as goal
use Rattle.bpf_profile.specs.Layouts.{context_size}

-- the laws of the domain are all that soundness stands on
pub returns : goal.returns
returns g c = λ layout slots budget program accepted analysed budgeted.
    sound g.D.Domain (record { registers = record { sound = record { words = g.met.D.Domain.contained_are_words; constants = g.met.D.Domain.words_are_contained; any = g.met.D.Domain.any_contains_all; operations = g.met.D.Domain.operations_are_contained; shifts = g.met.D.Domain.shifts_are_contained; conversions = g.met.D.Domain.conversions_are_contained; bounds = g.met.D.Domain.bounds_hold }; refines = record { bounds = g.met.D.Domain.bounds_hold; first = g.met.D.Domain.refining_keeps_the_first; second = g.met.D.Domain.refining_keeps_the_second }; first = g.met.D.Domain.joins_contain_the_first; second = g.met.D.Domain.joins_contain_the_second }; cells = record { words = g.met.D.Domain.contained_are_words; any = g.met.D.Domain.any_contains_all; first = g.met.D.Domain.joins_contain_the_first; second = g.met.D.Domain.joins_contain_the_second; conversions = g.met.D.Domain.conversions_are_contained; bounds = g.met.D.Domain.bounds_hold; zeros = g.met.D.Domain.low_zeros_hold } })
    (context_size layout) slots budget program accepted budgeted analysed (are_words slots program)
