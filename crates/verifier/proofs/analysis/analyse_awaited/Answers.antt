use Rattle.bpf_profile.specs.Layouts.{context_size}
use Rattle.verifier.proofs.Edges.{is_flow_of}
use Rattle.verifier.proofs.Forms.{forms_flatten, forms_read}
use Rattle.verifier.proofs.Sound.{sound, are_words}
use Rattle.verifier.proofs.analysis.analyse_awaited.Goals as goal

pub pass_awaited-requires : goal.pass_awaited-requires
pass_awaited-requires g c = record {
  fits = c.requires.fits;
  program = c.requires.program;
  accepted = c.requires.accepted;
  flow = is_flow_of c.args.program.now c.args.flow.now.edges c.requires.flow;
}

-- the laws of the domain are all that soundness stands on
pub returns-clause-safe : goal.returns-clause-safe
returns-clause-safe g c = λ budget budgeted.
    sound g.D.Domain (record { registers = record { sound = record { words = g.met.D.Domain.contained_are_words; constants = g.met.D.Domain.words_are_contained; any = g.met.D.Domain.any_contains_all; operations = g.met.D.Domain.operations_are_contained; shifts = g.met.D.Domain.shifts_are_contained; conversions = g.met.D.Domain.conversions_are_contained; bounds = g.met.D.Domain.bounds_hold }; refines = record { bounds = g.met.D.Domain.bounds_hold; first = g.met.D.Domain.refining_keeps_the_first; second = g.met.D.Domain.refining_keeps_the_second }; first = g.met.D.Domain.joins_contain_the_first; second = g.met.D.Domain.joins_contain_the_second }; cells = record { words = g.met.D.Domain.contained_are_words; any = g.met.D.Domain.any_contains_all; first = g.met.D.Domain.joins_contain_the_first; second = g.met.D.Domain.joins_contain_the_second; conversions = g.met.D.Domain.conversions_are_contained; bounds = g.met.D.Domain.bounds_hold; zeros = g.met.D.Domain.low_zeros_hold } })
    (context_size c.args.layout) c.args.program.now budget c.requires.program c.requires.accepted budgeted
    c.in_ok-flat.ensures.passed
    (are_words c.args.program.now c.requires.program)

pub returns-clause-flattened : goal.returns-clause-flattened
returns-clause-flattened g c = forms_flatten g.D.Domain (context_size c.args.layout) c.args.program.now c.in_ok-flat.flat c.in_ok-flat.ensures.forms

pub returns-clause-regions : goal.returns-clause-regions
returns-clause-regions g c =
    forms_read g.D.Domain (record { registers = record { sound = record { words = g.met.D.Domain.contained_are_words; constants = g.met.D.Domain.words_are_contained; any = g.met.D.Domain.any_contains_all; operations = g.met.D.Domain.operations_are_contained; shifts = g.met.D.Domain.shifts_are_contained; conversions = g.met.D.Domain.conversions_are_contained; bounds = g.met.D.Domain.bounds_hold }; refines = record { bounds = g.met.D.Domain.bounds_hold; first = g.met.D.Domain.refining_keeps_the_first; second = g.met.D.Domain.refining_keeps_the_second }; first = g.met.D.Domain.joins_contain_the_first; second = g.met.D.Domain.joins_contain_the_second }; cells = record { words = g.met.D.Domain.contained_are_words; any = g.met.D.Domain.any_contains_all; first = g.met.D.Domain.joins_contain_the_first; second = g.met.D.Domain.joins_contain_the_second; conversions = g.met.D.Domain.conversions_are_contained; bounds = g.met.D.Domain.bounds_hold; zeros = g.met.D.Domain.low_zeros_hold } })
    (context_size c.args.layout) c.args.program.now c.in_ok-flat.flat c.requires.program c.requires.accepted c.in_ok-flat.ensures.passed (are_words c.args.program.now c.requires.program) c.in_ok-flat.ensures.forms
