use Rattle.std.proofs.Common.{◌++◌, List, ℕ, replicate, ap, ◌∙◌}
use Rattle.packed_outcomes.specs.Words.{outcome_of}
use Rattle.packed_outcomes.proofs.Outcomes.{spread_numbers}
use Rattle.packed_outcomes.proofs.spread.unpack_numbers.Goals as goal

pub returns : goal.returns
returns c =
    c.record_of_numbers.ensures ∙ ap (λ (ws : List ℕ). outcome_of (ws ++ replicate 37 0)) c.spread.ensures ∙ spread_numbers c.args.marks c.args.kept.now c.requires
