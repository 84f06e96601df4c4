use Rattle.std.proofs.Common.{ap, ◌∙◌}
use Rattle.std.proofs.lemmas.Result.{IfOk-weaker}
use Rattle.packed_outcomes.specs.Marks.{packed_of}
use Rattle.packed_outcomes.proofs.Outcomes.{packed_numbers}
use Rattle.packed_outcomes.proofs.kept.pack_numbers.Goals as goal

pub returns : goal.returns
returns c =
    IfOk-weaker c.pack_in.result _ _ (λ packed is. is ∙ ap packed_of c.read_numbers.ensures.words ∙ packed_numbers c.args.outcome.now c.requires) c.pack_in.ensures
